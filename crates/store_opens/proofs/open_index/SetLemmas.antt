-- Sets of ids in order as ascending lists, and what of two such lists is the same.
use Rattle.std.proofs.Common.{◌≡◌, ℕ, ◌==◌, nat_lt, Bool, true, false, if◌then◌else◌, List, [], ◌∷◌, refl, sym, subst, ◌∙◌, arith}
use Rattle.std.proofs.lemmas.Bool.Decides.{nat_tests}
use Rattle.std.specs.Ordering.{nat_cmp}
use Rattle.std.specs.declared.cmp.Ordering.{Ordering}
use Rattle.std.specs.declared.cmp.Ordering.TheVariants.{Less, Equal, Greater}
use Rattle.std.specs.List.{list_any}
use Rattle.std.specs.List.Sorted.{IsStrictlySortedBy}
use Rattle.std.specs.BTreeMap.{is_at}
use Rattle.spec_exchange.specs.Table.{has}
use Rattle.law_server.specs.tables.Fits.{is_ascending}
use Rattle.law_server.proofs.tables.Logic.{either, both}
use Rattle.store_opens.proofs.open_index.Lists.{absent_below, behind_front, rest_ascends}

at_is : (q x : ℕ) → is_at (nat_cmp q) x ≡ (x == q)
at_is q x = grind (arith, nat_tests)

-- a set's test is a list's
pub contains_has : (q : ℕ) (xs : List ℕ) → list_any (is_at (nat_cmp q)) xs ≡ has q xs
contains_has q [] = refl
contains_has q (x ∷ xs) = let e = contains_has q xs in let a = at_is q x in grind arith

less_of : (x y : ℕ) → nat_cmp x y ≡ Less → nat_lt x y ≡ true
less_of x y = either (λ (v : Ordering). v ≡ Less → nat_lt x y ≡ true) (nat_lt x y) Less (if x == y then Equal else Greater) (λ l e. l)
    (either (λ (v : Ordering). nat_lt x y ≡ false → v ≡ Less → nat_lt x y ≡ true) (x == y) Equal Greater
    (λ q l e. absurd (cc)) (λ q l e. absurd (cc)))

pub ordered_ascends : (xs : List ℕ) → IsStrictlySortedBy nat_cmp xs → is_ascending xs ≡ true
unfolding IsStrictlySortedBy is_ascending
ordered_ascends [] h = refl
ordered_ascends (x ∷ []) h = refl
ordered_ascends (x ∷ y ∷ ys) h = both (nat_lt x y) (is_ascending (y ∷ ys)) (less_of x y h.0.0) (ordered_ascends (y ∷ ys) h.1)

-- ---- two ascending lists with the same elements are the same

lesser_front : (x y : ℕ) (xs ys : List ℕ) → is_ascending (x ∷ xs) ≡ true → is_ascending (y ∷ ys) ≡ true
    → has x (x ∷ xs) ≡ has x (y ∷ ys) → nat_lt x y ≡ false
lesser_front x y xs ys a b same = either (λ (v : Bool). v ≡ nat_lt x y → nat_lt x y ≡ false) (nat_lt x y) true false
    (λ l e. let n = absent_below x y ys b l in absurd (grind arith)) (λ l e. l) (grind arith)

fronts : (x y : ℕ) → nat_lt x y ≡ false → nat_lt y x ≡ false → x ≡ y
fronts x y a b = grind (arith, nat_tests)

rest_same : (x p : ℕ) (xs ys : List ℕ) → is_ascending (x ∷ xs) ≡ true → is_ascending (x ∷ ys) ≡ true
    → has p (x ∷ xs) ≡ has p (x ∷ ys) → has p xs ≡ has p ys
rest_same x p xs ys a b same = let f = behind_front p x xs a in let g = behind_front p x ys b in grind arith

pub ascending_same : (xs ys : List ℕ) → is_ascending xs ≡ true → is_ascending ys ≡ true → ((p : ℕ) → has p xs ≡ has p ys) → xs ≡ ys
ascending_same [] [] a b same = refl
ascending_same [] (y ∷ ys) a b same = let e = same y in absurd (grind arith)
ascending_same (x ∷ xs) [] a b same = let e = same x in absurd (grind arith)
ascending_same (x ∷ xs) (y ∷ ys) a b same =
    let e : x ≡ y = fronts x y (lesser_front x y xs ys a b (same x)) (lesser_front y x ys xs b a (sym (same y))) in
    let c : is_ascending (x ∷ ys) ≡ true = subst (λ (z : ℕ). is_ascending (z ∷ ys) ≡ true) (sym e) b in
    let t = ascending_same xs ys (rest_ascends x xs a) (rest_ascends y ys b)
    (λ p. rest_same x p xs ys a c (same p ∙ subst (λ (z : ℕ). has p (y ∷ ys) ≡ has p (z ∷ ys)) (sym e) refl)) in
    cc
