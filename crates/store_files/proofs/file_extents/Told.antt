-- A file's bytes told part by part.
use Rattle.std.proofs.Common.{◌≡◌, ℕ, zero, suc, ◌+◌, ◌-◌, ◌<◌, ◌≤◌, min, nat_lt, Bool, true, false, if◌then◌else◌, List, [], ◌∷◌, length}
use Rattle.std.proofs.Common.{take, drop, get_or, Option, Some, None, IsSome, IfSome, IfNone, is_some, Vec, refl, sym, ap, subst, ◌∙◌, arith}
use Rattle.std.specs.Prelude.{vec_items}
use Rattle.std.specs.Global.{Global}
use Rattle.std.proofs.lemmas.Bool.Decides.{nat_tests}
use Rattle.std.proofs.lemmas.List.{places}
use Rattle.std.proofs.lemmas.Grind.{same_number_lists}
use Rattle.spec_exchange.specs.Content.{is_empty, written, ended}
use Rattle.spec_exchange.proofs.Content.{length-written, get_or-written, length-ended, get_or-ended}
use Rattle.store_files.specs.file_extents.Shown.{Shows}
use Rattle.store_files.specs.file_extents.Parts.{up_to, IsFilePart, IsFilled, AreEmpty}

-- ---- bytes up to a place

get_up_to : (at : ℕ) (c : List ℕ) (k : ℕ) → get_or (up_to at c) k 0 ≡ (if nat_lt k at then get_or c k 0 else 0)
get_up_to at c k = let e = get_or-ended (length c) (take at c) k in grind (arith, places, nat_tests)

pub all_told : (at : ℕ) (c : List ℕ) → ((i : ℕ) → at ≤ i → get_or c i 0 ≡ 0) → up_to at c ≡ c
all_told at c zeros = same_number_lists (up_to at c) c (length-ended (length c) (take at c))
    (λ k l. let g = get_up_to at c k in let z = zeros k in grind (arith, nat_tests))

filled_so : (d : List ℕ) → 0 < length d → is_empty d ≡ false
unfolding is_empty
filled_so [] l = absurd (omega arith)
filled_so (x ∷ xs) l = refl

pub told_on : (c d : List ℕ) (at place : ℕ) → at ≤ place → 0 < length d → place + length d ≤ length c
    → ((i : ℕ) → at ≤ i → i < place → get_or c i 0 ≡ 0)
    → ((j : ℕ) → j < length d → get_or c (place + j) 0 ≡ get_or d j 0) → written place d (up_to at c) ≡ up_to (place + length d) c
told_on c d at place l some within zeros same =
    let e = filled_so d some in
    let n = length-ended (length c) (take at c) in
    let m = length-ended (length c) (take (place + length d) c) in
    same_number_lists (written place d (up_to at c)) (up_to (place + length d) c)
    (let w = length-written place d (up_to at c) e in grind arith)
    (λ k o.
    let w = get_or-written place d (up_to at c) k e in
    let a = get_up_to at c k in
    let b = get_up_to (place + length d) c k in
    let z = zeros k in
    let s = same (k - place) in
    grind (arith, nat_tests))

-- ---- a part of a piece

module _ (f : ℕ → Option (Vec ℕ Global)) (c : List ℕ) (s : Shows vec_items f c) (k : ℕ) (p : Vec ℕ Global) (e : f k ≡ Some p) where
  piece_within : 0 < length p.items → k + length p.items ≤ length c
  piece_within l = let x = s.fits k p (length p.items - 1) e (omega (arith, l)) in omega (arith, x, l)

  cut_length : (off most : ℕ) → length (take most (drop off p.items)) ≡ min most (length p.items - off)
  cut_length off most = grind (arith, places)

  cut_at : (off most j : ℕ) → j < length (take most (drop off p.items))
      → get_or c ((k + off) + j) 0 ≡ get_or (take most (drop off p.items)) j 0
  cut_at off most j l =
      let n = cut_length off most in
      let x = s.bytes k p (off + j) e (omega (arith, n, l)) in
      let a : (k + off) + j ≡ k + (off + j) = omega arith in
      let y : get_or (take most (drop off p.items)) j 0 ≡ get_or p.items (off + j) 0 = grind (arith, places) in
      ap (λ (i : ℕ). get_or c i 0) a ∙ (x ∙ sym y)

  pub is_part : (at most off place : ℕ) → place ≡ k + off → at ≤ place → off < length p.items → 0 < most
      → ((i : ℕ) → at ≤ i → i < place → get_or c i 0 ≡ 0)
      → IsFilePart c at most place (take most (drop off p.items))
  is_part at most off place same l o m zeros =
      let n = cut_length off most in
      let w = piece_within (omega (arith, o)) in
      let some : 0 < length (take most (drop off p.items)) = omega (arith, n, o, m) in
      let within : place + length (take most (drop off p.items)) ≤ length c = omega (arith, n, o, w, same) in record {
        behind = l;
        some = some;
        few = omega (arith, n);
        within = within;
        told = told_on c (take most (drop off p.items)) at place l some within zeros
            (λ j i. ap (λ (q : ℕ). get_or c (q + j) 0) same ∙ cut_at off most j i);
      }

-- ---- no bytes before the first piece that has some

module _ (f : ℕ → Option (Vec ℕ Global)) (c : List ℕ) (s : Shows vec_items f c) (at : ℕ)
    (clear : (k : ℕ) (p : Vec ℕ Global) → f k ≡ Some p → k ≤ at → k + length p.items ≤ at) where
  pub zeros_before : (end : ℕ) → AreEmpty f at end → (i : ℕ) → at ≤ i → i < end → get_or c i 0 ≡ 0
  zeros_before end empty i l m = s.gaps i (λ k p e n. by k p e n (nat_lt at k) refl)
    where
      by : (k : ℕ) (p : Vec ℕ Global) → f k ≡ Some p → k ≤ i → (b : Bool) → nat_lt at k ≡ b → k + length p.items ≤ i
      by k p e n true t = let x = empty k p e (grind (arith, nat_tests)) (omega (arith, n, m)) in omega (arith, x, n)
      by k p e n false t = let x = clear k p e (grind (arith, nat_tests)) in omega (arith, x, l)

  pub none_from : ((end : ℕ) → AreEmpty f at end) → up_to at c ≡ c
  none_from empty = all_told at c (λ i l. zeros_before (i + 1) (empty (i + 1)) i l (omega arith))

-- ---- the walk to it

some_is : {X : Type 0} (o : Option X) (x : X) → o ≡ Some x → IsSome o
some_is o x e = ap (λ v. is_some v) e

pub empty_begun : (f : ℕ → Option (Vec ℕ Global)) (at : ℕ) → AreEmpty f at at
empty_begun f at = λ k p e l m. absurd (omega (arith, l, m))

pub empty_on : (f : ℕ → Option (Vec ℕ Global)) (at from place next : ℕ) → AreEmpty f at from → from ≤ place
    → ((q : ℕ) → from ≤ q → IsSome (f q) → place ≤ q) → ((p : Vec ℕ Global) → f place ≡ Some p → length p.items ≡ 0)
    → next ≤ place + 1 → AreEmpty f at next
empty_on f at from place next before l first empty m = λ k p e a b. by k p e a b (nat_lt k from) refl
  where
    by : (k : ℕ) (p : Vec ℕ Global) → f k ≡ Some p → at ≤ k → k < next → (t : Bool) → nat_lt k from ≡ t → length p.items ≡ 0
    by k p e a b true t = before k p e a (grind (arith, nat_tests))
    by k p e a b false t =
        let n = first k (grind (arith, nat_tests)) (some_is (f k) p e) in
        let same : k ≡ place = omega (arith, n, b, m) in
        empty p (ap f (sym same) ∙ e)

-- up to the first with bytes
pub empty_until : (f : ℕ → Option (Vec ℕ Global)) (at from place : ℕ) → AreEmpty f at from
    → ((q : ℕ) → from ≤ q → IsSome (f q) → place ≤ q) → AreEmpty f at place
empty_until f at from place before first = λ k p e a b. by k p e a b (nat_lt k from) refl
  where
    by : (k : ℕ) (p : Vec ℕ Global) → f k ≡ Some p → at ≤ k → k < place → (t : Bool) → nat_lt k from ≡ t → length p.items ≡ 0
    by k p e a b true t = before k p e a (grind (arith, nat_tests))
    by k p e a b false t = absurd (let n = first k (grind (arith, nat_tests)) (some_is (f k) p e) in omega (arith, n, b))

-- where none begins from a place on, or only behind the last byte
pub empty_behind : (f : ℕ → Option (Vec ℕ Global)) (at from : ℕ) → AreEmpty f at from
    → ((q : ℕ) (p : Vec ℕ Global) → from ≤ q → f q ≡ Some p → length p.items ≡ 0) → (end : ℕ) → AreEmpty f at end
empty_behind f at from before rest end = λ k p e a b. by k p e a (nat_lt k from) refl
  where
    by : (k : ℕ) (p : Vec ℕ Global) → f k ≡ Some p → at ≤ k → (t : Bool) → nat_lt k from ≡ t → length p.items ≡ 0
    by k p e a true t = before k p e a (grind (arith, nat_tests))
    by k p e a false t = rest k p (grind (arith, nat_tests)) e

none_piece : (o : Option (Vec ℕ Global)) (p : Vec ℕ Global) → o ≡ None → o ≡ Some p → length p.items ≡ 0
none_piece o p n e = absurd (let x = sym n ∙ e in cc)

pub none_behind : (f : ℕ → Option (Vec ℕ Global)) (from : ℕ) → ((q : ℕ) → from ≤ q → f q ≡ None)
    → (q : ℕ) (p : Vec ℕ Global) → from ≤ q → f q ≡ Some p → length p.items ≡ 0
none_behind f from none q p l e = none_piece (f q) p (none q l) e

pub past_end : (f : ℕ → Option (Vec ℕ Global)) (c : List ℕ) (from : ℕ) → Shows vec_items f c → length c ≤ from
    → (q : ℕ) (p : Vec ℕ Global) → from ≤ q → f q ≡ Some p → length p.items ≡ 0
past_end f c from s l q p m e = by (length p.items) refl
  where
    by : (n : ℕ) → length p.items ≡ n → length p.items ≡ 0
    by zero i = i
    by (suc n) i = absurd (let x = s.fits q p 0 e (omega (arith, i)) in omega (arith, x, l, m))

pub filled_is : (o : Option (Vec ℕ Global)) (p : Vec ℕ Global) → o ≡ Some p → IsFilled o → 0 < length p.items
filled_is o p e h = subst (λ (x : Option (Vec ℕ Global)). IsFilled x) e h

-- ---- answers with other facts of them

pub on_some : {X : Type 0} (o : Option X) (P Q : X → Type 0) → ((x : X) → P x → Q x) → IfSome o P → IfSome o Q
on_some None P Q f h = tt
on_some (Some x) P Q f h = f x h

pub on_none : {X : Type 0} (o : Option X) (P Q : Type 0) → (P → Q) → IfNone o P → IfNone o Q
on_none None P Q f h = f h
on_none (Some x) P Q f h = tt
