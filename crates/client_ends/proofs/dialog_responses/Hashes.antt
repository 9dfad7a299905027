-- How many hashes a preauthentication context has.
use Rattle.std.proofs.Common.{◌≡◌, ℕ, zero, suc, ◌+◌, ◌*◌, ◌≤◌, nat_le, nat_lt, Bool, true, false, not, ◌||◌, if◌then◌else◌}
use Rattle.std.proofs.Common.{List, [], length, Option, Some, None, refl, sym, ap, ◌∙◌, arith}
use Rattle.std.proofs.lemmas.Bool.Decides.{nat_tests}
use Rattle.spec_wire.specs.messages.Places.{number}
use Rattle.spec_wire.specs.messages.Contexts.{Context, contexts_end, contexts_in}
use Rattle.spec_wire.specs.messages.Offer.{all_fit, doubled, doubled_fault, ids_at, ids_in, lists_fit, offer_fault}
use Rattle.spec_wire.specs.declared.messages.refusal.CtxError.{CtxError}
use Rattle.spec_wire.specs.declared.messages.refusal.CtxError.TheVariants.{Short}

length_ids : (m : List ℕ) (at n : ℕ) → length (ids_at m at n) ≡ n
unfolding ids_at
length_ids m at zero = refl
length_ids m at (suc n) = let rest = length_ids m (at + 2) n in omega arith

pub counted : (bytes : List ℕ) (o : Option Context) → o ≡ Some (record { kind = 1; bytes = bytes })
    → number 2 bytes 0 ≡ length (ids_in o)
counted bytes o e =
    sym (length_ids bytes 4 (number 2 bytes 0)) ∙ ap (λ (x : Option Context). length (ids_in x)) (sym e)

pub none_counted : (o : Option Context) → o ≡ None → 0 ≡ length (ids_in o)
none_counted o e = ap (λ (x : Option Context). length (ids_in x)) (sym e)

is_least : (k n : ℕ) → nat_le k n ≡ true → k ≤ n
is_least k n e = grind (arith, nat_tests)

pub wide_enough : (bytes : List ℕ) → lists_fit (record { kind = 1; bytes = bytes }) ≡ true → 2 ≤ length bytes
wide_enough bytes e =
    let h : 4 + 2 * number 2 bytes 0 + number 2 bytes 2 ≤ length bytes =
    is_least (4 + 2 * number 2 bytes 0 + number 2 bytes 2) (length bytes) e in
    omega (arith, h)

-- contexts that read fit, and so do their lists
tested : (a b : Bool) (x : Option CtxError) → (if a || not b then Some Short else x) ≡ None → (a ≡ false) × (b ≡ true)
tested true b x e = absurd cc
tested false true x e = (refl, refl)
tested false false x e = absurd cc

not_less : (n k : ℕ) → nat_lt n k ≡ false → k ≤ n
not_less n k e = grind (arith, nat_tests)

pub they_fit : (bytes : List ℕ) (count : ℕ) → offer_fault bytes count ≡ None → contexts_end bytes 0 count ≤ length bytes
they_fit bytes count e =
    not_less (length bytes) (contexts_end bytes 0 count)
    (tested (nat_lt (length bytes) (contexts_end bytes 0 count)) (all_fit (contexts_in bytes 0 count))
    (doubled_fault (doubled [] (contexts_in bytes 0 count))) e).0

pub lists_do : (bytes : List ℕ) (count : ℕ) → offer_fault bytes count ≡ None → all_fit (contexts_in bytes 0 count) ≡ true
lists_do bytes count e =
    (tested (nat_lt (length bytes) (contexts_end bytes 0 count)) (all_fit (contexts_in bytes 0 count))
    (doubled_fault (doubled [] (contexts_in bytes 0 count))) e).1
