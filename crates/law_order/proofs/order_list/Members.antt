-- A rising list is known by its members.
use Rattle.std.proofs.Common.{◌≡◌, ℕ, zero, suc, ◌+◌, ◌<◌, ◌≤◌, ◌==◌, Bool, true, false, if◌then◌else◌, List, [], ◌∷◌, map}
use Rattle.std.proofs.Common.{refl, sym, ap, subst, ◌∙◌, arith}
use Rattle.std.proofs.lemmas.Bool.Decides.{nat_tests}
use Rattle.spec_exchange.specs.Order.{Account, is_entry, order_from}
use Rattle.spec_exchange.specs.Table.{has}
use Rattle.law_order.specs.order_list.Rising.{ArePlacesBelow, RisesFrom}

-- ---- tests

is_other : (n k : ℕ) → (n ≡ k → ⊥) → (n == k) ≡ false
is_other n k h = grind (arith, nat_tests)

is_same : (n k : ℕ) → (n == k) ≡ true → n ≡ k
is_same n k h = grind (arith, nat_tests)

apart : (n k : ℕ) → (n == k) ≡ false → n ≡ k → ⊥
apart n k h e = grind (arith, nat_tests)

if_other : (b r : Bool) → b ≡ false → (if b then true else r) ≡ r
if_other b r e = ap (λ (x : Bool). if x then true else r) e

if_same : (b r : Bool) → b ≡ true → (if b then true else r) ≡ true
if_same b r e = ap (λ (x : Bool). if x then true else r) e

clash : false ≡ true → ⊥
clash e = absurd cc

above : (n least x : ℕ) → n < least → least ≤ x → x ≡ n → ⊥
above n least x l m e = omega (arith, l, m, e)

behind : (n least x : ℕ) → n < least → least ≤ x → n < x + 1
behind n least x l m = omega (arith, l, m)

-- what is below the least is no member
below : (n least : ℕ) (ns : List ℕ) → n < least → RisesFrom least ns → has n ns ≡ false
below n least [] l r = refl
below n least (x ∷ xs) l r =
    if_other (x == n) (has n xs) (is_other x n (above n least x l r.0)) ∙ below n (x + 1) xs (behind n least x l r.0) r.1

-- ---- bounds

none_within : (from n : ℕ) → from ≤ n → n < from + 0 → ⊥
none_within from n l h = omega (arith, l, h)

itself : (n : ℕ) → n ≤ n
itself n = omega arith

first_in : (from k : ℕ) → from < from + suc k
first_in from k = omega arith

one_on : (from k : ℕ) → from + suc k ≡ from + 1 + k
one_on from k = omega arith

lower : (from n : ℕ) → from + 1 ≤ n → from ≤ n
lower from n l = omega (arith, l)

within : (from k n : ℕ) → n < from + 1 + k → n < from + suc k
within from k n l = omega (arith, l)

next : (from n : ℕ) → from ≤ n → (n ≡ from → ⊥) → from + 1 ≤ n
next from n l h = omega (arith, l, h)

just_below : (from : ℕ) → from < from + 1
just_below from = omega arith

not_first : (from n m : ℕ) → n ≡ from → from + 1 ≤ m → n ≡ m → ⊥
not_first from n m e l f = omega (arith, e, l, f)

-- ---- one place more

abbrev Tells : Account → ℕ → ℕ → ℕ → List ℕ → Type 0
Tells a o from k ns = (n : ℕ) → from ≤ n → n < from + k → has n ns ≡ is_entry a o n

abbrev Later : Account → ℕ → ℕ → ℕ → Type 0
Later a o from k = (ms : List ℕ) → RisesFrom (from + 1) ms → ArePlacesBelow (from + 1 + k) ms → Tells a o (from + 1) k ms
    → map (λ n. a.log.who n) ms ≡ order_from a o (from + 1) k

shifted : (from k : ℕ) (ns : List ℕ) → ArePlacesBelow (from + suc k) ns → ArePlacesBelow (from + 1 + k) ns
shifted from k ns b = subst (λ (top : ℕ). ArePlacesBelow top ns) (one_on from k) b

goes_on : (a : Account) (o from k : ℕ) (ns : List ℕ) → Tells a o from (suc k) ns → Tells a o (from + 1) k ns
goes_on a o from k ns h m l t = h m (lower from m l) (within from k m t)

-- the first place is an entry
enters : (a : Account) (o from k n : ℕ) (ns : List ℕ) (same : Bool) → (n == from) ≡ same → is_entry a o from ≡ true → Later a o from k
    → RisesFrom from (n ∷ ns) → ArePlacesBelow (from + suc k) (n ∷ ns) → Tells a o from (suc k) (n ∷ ns)
    → map (λ x. a.log.who x) (n ∷ ns) ≡ a.log.who from ∷ order_from a o (from + 1) k
enters a o from k n ns true s is later r b h =
    let e : n ≡ from = is_same n from s in
    let rises : RisesFrom (from + 1) ns = subst (λ (x : ℕ). RisesFrom (x + 1) ns) e r.1 in
    let rest = later ns rises (shifted from k ns b.1) (λ m l t.
    sym (if_other (n == m) (has m ns) (is_other n m (not_first from n m e l))) ∙ h m (lower from m l) (within from k m t)) in
    (λ i. a.log.who (e i) ∷ rest i)
enters a o from k n ns false s is later r b h =
    absurd (clash (sym (below from (from + 1) (n ∷ ns) (just_below from) (next from n r.0 (apart n from s), r.1))
    ∙ (h from (itself from) (first_in from k) ∙ is)))

-- it isn't
passes : (a : Account) (o from k n : ℕ) (ns : List ℕ) (same : Bool) → (n == from) ≡ same → is_entry a o from ≡ false → Later a o from k
    → RisesFrom from (n ∷ ns) → ArePlacesBelow (from + suc k) (n ∷ ns) → Tells a o from (suc k) (n ∷ ns)
    → map (λ x. a.log.who x) (n ∷ ns) ≡ order_from a o (from + 1) k
passes a o from k n ns true s is later r b h =
    absurd (clash (sym is ∙ (sym (h from (itself from) (first_in from k)) ∙ if_same (n == from) (has from ns) s)))
passes a o from k n ns false s is later r b h =
    later (n ∷ ns) (next from n r.0 (apart n from s), r.1) (shifted from k (n ∷ ns) b) (goes_on a o from k (n ∷ ns) h)

turn : (a : Account) (o from k : ℕ) (ns : List ℕ) (e : Bool) → is_entry a o from ≡ e → Later a o from k → RisesFrom from ns
    → ArePlacesBelow (from + suc k) ns → Tells a o from (suc k) ns
    → map (λ x. a.log.who x) ns ≡ (if e then a.log.who from ∷ order_from a o (from + 1) k else order_from a o (from + 1) k)
turn a o from k [] true is later r b h = absurd (clash (h from (itself from) (first_in from k) ∙ is))
turn a o from k [] false is later r b h = later [] tt tt (goes_on a o from k [] h)
turn a o from k (n ∷ ns) true is later r b h = enters a o from k n ns (n == from) refl is later r b h
turn a o from k (n ∷ ns) false is later r b h = passes a o from k n ns (n == from) refl is later r b h

pub order_is : (a : Account) (o from k : ℕ) (ns : List ℕ) → RisesFrom from ns → ArePlacesBelow (from + k) ns
    → ((n : ℕ) → from ≤ n → n < from + k → has n ns ≡ is_entry a o n) → map (λ n. a.log.who n) ns ≡ order_from a o from k
unfolding order_from
order_is a o from zero [] r b h = refl
order_is a o from zero (n ∷ ns) r b h = absurd (none_within from n r.0 b.0)
order_is a o from (suc k) ns r b h =
    turn a o from k ns (is_entry a o from) refl (λ ms u v w. order_is a o (from + 1) k ms u v w) r b h
