-- One step of the search among the mechanisms, and its ends.
use Rattle.std.proofs.Common.{◌≡◌, ℕ, zero, suc, ◌+◌, ◌<◌, ◌≤◌, ◌==◌, Bool, true, false, ◌||◌, length, refl, arith, sym}
use Rattle.std.proofs.Common.{◌∙◌, ap, Result, Ok, Err}
use Rattle.std.specs.Str.{bytes_eq}
use Rattle.std.proofs.lemmas.Bool.Decides.{nat_tests}
use Rattle.spec_crypto.specs.declared.tokens.der.DerError.{DerError}
use Rattle.spec_crypto.specs.tokens.Der.{◌>>=◌, Piece, Parted, element}
use Rattle.spec_crypto.specs.tokens.Spnego.{ntlmssp, names_ntlm}

abbrev pub with_found : Bool → Result Bool DerError → Result Bool DerError
with_found b r = r >>= λ later. Ok (b || later)

pub found_twice : (a b : Bool) (r : Result Bool DerError) → with_found a (with_found b r) ≡ with_found (a || b) r
found_twice true b (Ok x) = refl
found_twice false b (Ok x) = refl
found_twice a b (Err e) = refl

pub found_none : (a : Bool) → with_found a (Ok false) ≡ Ok a
found_none true = refl
found_none false = refl

not_empty : (n : ℕ) → 0 < n → (n == 0) ≡ false
not_empty n h = grind (arith, nat_tests)

-- what is left of the search where some elements are left and one was read
pub some_left : (k : ℕ) (p : Piece) (e : Parted) → 0 < length p.bytes → length p.bytes ≤ k → element 6 p ≡ Ok e → (j :
    ℕ) × (k ≡ j + 1) × (names_ntlm k p ≡ with_found (bytes_eq e.contents.bytes ntlmssp) (names_ntlm j e.rest))
unfolding names_ntlm
some_left zero p e some low read = absurd (omega arith)
some_left (suc j) p e some low read = (j, omega arith, rw (not_empty (length p.bytes) some, read) refl)

pub some_broken : (k : ℕ) (p : Piece) (e : DerError) → 0 < length p.bytes → length p.bytes ≤ k → element 6 p ≡ Err e →
    names_ntlm k p ≡ Err e
unfolding names_ntlm
some_broken zero p e some low read = absurd (omega arith)
some_broken (suc j) p e some low read = rw (not_empty (length p.bytes) some, read) refl

pub none_left : (k : ℕ) (p : Piece) → length p.bytes ≡ 0 → names_ntlm k p ≡ Ok false
unfolding names_ntlm
none_left zero p none = refl
none_left (suc k) p none = rw none refl

-- the whole search is what was found so far and the search among what is left
pub record IsSearched (front p : Piece) (found : Bool) : Type 0 where
  pub more : ℕ
  pub enough : length p.bytes ≤ more
  pub same : names_ntlm (length front.bytes) front ≡ with_found found (names_ntlm more p)

pub at_start : (p : Piece) → IsSearched p p false
at_start p = record { more = length p.bytes; enough = omega arith; same = sym (without (names_ntlm (length p.bytes) p)) }
  where
    without : (r : Result Bool DerError) → with_found false r ≡ r
    without (Ok x) = refl
    without (Err e) = refl

pub one_on : (front p : Piece) (e : Parted) (found : Bool) → IsSearched front p found → 0 < length p.bytes → element 6 p
    ≡ Ok e → length e.rest.bytes < length p.bytes → IsSearched front e.rest (found || bytes_eq e.contents.bytes ntlmssp)
one_on front p e found s some read shorter =
    let step = some_left s.more p e some s.enough read in
    record {
      more = step.0;
      enough = (let a = step.1 in let b = s.enough in omega arith);
      same = s.same ∙ (ap (with_found found) step.2 ∙ found_twice found (bytes_eq e.contents.bytes ntlmssp) (names_ntlm step.0 e.rest));
    }

pub broken : (front p : Piece) (e : DerError) (found : Bool) → IsSearched front p found → 0 < length p.bytes → element 6
    p ≡ Err e → names_ntlm (length front.bytes) front ≡ Err e
broken front p e found s some read = s.same ∙ ap (with_found found) (some_broken s.more p e some s.enough read)

pub ended : (front p : Piece) (found : Bool) → IsSearched front p found → length p.bytes ≡ 0 → names_ntlm (length
    front.bytes) front ≡ Ok found
ended front p found s none = s.same ∙ (ap (with_found found) (none_left s.more p none) ∙ found_none found)
