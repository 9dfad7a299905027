-- Orders up to a place, and up to the next one.
use Rattle.std.proofs.Common.{◌≡◌, ℕ, zero, suc, ◌+◌, ◌-◌, ◌<◌, ◌≤◌, ◌==◌, nat_le, Bool, true, false, if◌then◌else◌, refl, sym}
use Rattle.std.proofs.Common.{ap, subst}
use Rattle.std.proofs.Common.{◌∙◌, arith, List, [], ◌∷◌, ◌++◌, slice_get, Some, None}
use Rattle.std.proofs.lemmas.Bool.Decides.{nat_tests}
use Rattle.std.proofs.lemmas.List.{append-nil}
use Rattle.spec_exchange.specs.Order.{Account, is_entry, order_from}
use Rattle.world_ends.specs.results.Listing.{AddsAt, AreBare, AreOrdersTo, ListingTellsOpen, order_to}
use Rattle.world_ends.specs.declared.results.ordering.Order.{Order}

order_more : (a : Account) (o n k : ℕ) → order_from a o n (suc k) ≡ order_from a o n k
    ++ (if is_entry a o (n + k) then a.log.who (n + k) ∷ [] else [])
unfolding order_from
order_more a o n zero = let e : n + 0 ≡ n = omega arith in rw e refl
order_more a o n (suc k) =
    let e : n + suc k ≡ n + 1 + k = omega arith in
    elim (is_entry a o n) as (λ t. (if t then a.log.who n ∷ order_from a o (n + 1) (suc k) else order_from a o (n + 1) (suc k))
    ≡ (if t then a.log.who n ∷ order_from a o (n + 1) k else order_from a o (n + 1) k)
    ++ (if is_entry a o (n + suc k) then a.log.who (n + suc k) ∷ [] else [])) [
      | true ↦ rw e (ap (λ v. a.log.who n ∷ v) (order_more a o (n + 1) k))
      | false ↦ rw e (order_more a o (n + 1) k)
    ]

abbrev one_at : Account → ℕ → ℕ → List ℕ
one_at a n o = if is_entry a o n then a.log.who n ∷ [] else []

next_by : (b : Bool) (a : Account) (n o : ℕ) → (b ≡ true → a.log.birth o ≤ n) → (b ≡ false → n < a.log.birth o)
    → order_to a (n + 1) o ≡ order_to a n o ++ (if b then one_at a n o else [])
unfolding order_from
next_by true a n o on off =
    let born = a.log.birth o in
    let l = on refl in
    let e : n + 1 - born ≡ suc (n - born) = omega (arith, l) in
    let at : born + (n - born) ≡ n = omega (arith, l) in
    ap (λ (k : ℕ). order_from a o born k) e
    ∙ (order_more a o born (n - born)
    ∙ ap (λ (v : ℕ). order_from a o born (n - born) ++ (if is_entry a o v then a.log.who v ∷ [] else [])) at)
next_by false a n o on off =
    let born = a.log.birth o in
    let l = off refl in
    let e : n + 1 - born ≡ 0 = omega (arith, l) in
    let d : n - born ≡ 0 = omega (arith, l) in
    ap (λ (k : ℕ). order_from a o born k) e ∙ sym (ap (λ (k : ℕ). order_from a o born k ++ []) d)

is_below : (b n : ℕ) → nat_le b n ≡ true → b ≤ n
is_below b n e = grind (arith, nat_tests)

is_above : (b n : ℕ) → nat_le b n ≡ false → n < b
is_above b n e = grind (arith, nat_tests)

order_next : (a : Account) (n o : ℕ) → order_to a (n + 1) o ≡ order_to a n o ++ (if nat_le (a.log.birth o) n then one_at a n o else [])
order_next a n o = next_by (nat_le (a.log.birth o) n) a n o (is_below (a.log.birth o) n) (is_above (a.log.birth o) n)

nothing : (b t : Bool) (g : ℕ) → t ≡ false → (if b then (if t then g ∷ [] else []) else []) ≡ []
nothing true false g e = refl
nothing true true g e = absurd (cc)
nothing false t g e = refl

unborn_by : (b t : Bool) (g : ℕ) → b ≡ false → (if b then (if t then g ∷ [] else []) else []) ≡ []
unborn_by false t g e = refl
unborn_by true t g e = absurd (cc)

one_by : (b t : Bool) (g : ℕ) → b ≡ true → t ≡ true → (if b then (if t then g ∷ [] else []) else []) ≡ g ∷ []
one_by true true g e d = refl
one_by true false g e d = absurd (cc)
one_by false t g e d = absurd (cc)

still : (a : Account) (n o : ℕ) → is_entry a o n ≡ false → order_to a (n + 1) o ≡ order_to a n o
still a n o e =
    order_next a n o
    ∙ (ap (λ (v : List ℕ). order_to a n o ++ v) (nothing (nat_le (a.log.birth o) n) (is_entry a o n) (a.log.who n) e)
    ∙ append-nil (order_to a n o))

unborn : (a : Account) (n o : ℕ) → nat_le (a.log.birth o) n ≡ false → order_to a (n + 1) o ≡ order_to a n o
unborn a n o e =
    order_next a n o
    ∙ (ap (λ (v : List ℕ). order_to a n o ++ v) (unborn_by (nat_le (a.log.birth o) n) (is_entry a o n) (a.log.who n) e)
    ∙ append-nil (order_to a n o))

grown : (a : Account) (n o : ℕ) → nat_le (a.log.birth o) n ≡ true → is_entry a o n ≡ true
    → order_to a (n + 1) o ≡ order_to a n o ++ a.log.who n ∷ []
grown a n o e d =
    order_next a n o
    ∙ ap (λ (v : List ℕ). order_to a n o ++ v) (one_by (nat_le (a.log.birth o) n) (is_entry a o n) (a.log.who n) e d)

-- ---- all of them

pub none_added : (a : Account) (n g : ℕ) (xs : List Order) → ListingTellsOpen a g n None → a.log.who n ≡ g → AreOrdersTo a n xs
    → AreOrdersTo a (n + 1) xs
none_added a n g xs t who h = λ o x e. h o x e ∙ sym (still a n o (t who o))

is_self : (c o : ℕ) → (c == o) ≡ true → o ≡ c
is_self c o e = grind (arith, nat_tests)

is_other : (c o : ℕ) → (c == o) ≡ false → o ≡ c → ⊥
is_other c o e d = grind (arith, nat_tests)

one_self : (c : ℕ) → (c == c) ≡ true
one_self c = grind (arith, nat_tests)

here_added : (a : Account) (n g c : ℕ) (xs ys : List Order) (y : Order) → ListingTellsOpen a g n (Some c) → a.log.who n ≡ g
    → nat_le (a.log.birth c) n ≡ true → AddsAt c g xs ys → AreOrdersTo a n xs → slice_get ys c ≡ Some y
    → y.numbers.items ≡ order_to a (n + 1) c
here_added a n g c xs ys y t who born d h e =
    let was = d.here y e in
    was.2
    ∙ (ap (λ (v : List ℕ). v ++ g ∷ []) (h c was.0 was.1)
    ∙ (ap (λ (v : ℕ). order_to a n c ++ v ∷ []) (sym who) ∙ sym (grown a n c born (t who c ∙ one_self c))))

-- by whether it is the create's own
one_by_test : (b : Bool) (a : Account) (n g c o : ℕ) (xs ys : List Order) (y : Order) → (c == o) ≡ b → ListingTellsOpen a g n (Some c)
    → a.log.who n ≡ g → nat_le (a.log.birth c) n ≡ true → AddsAt c g xs ys → AreOrdersTo a n xs → slice_get ys o ≡ Some y
    → y.numbers.items ≡ order_to a (n + 1) o
one_by_test true a n g c o xs ys y s t who born d h e =
    let k = is_self c o s in
    subst (λ (v : ℕ). y.numbers.items ≡ order_to a (n + 1) v) (sym k)
    (here_added a n g c xs ys y t who born d h (subst (λ (v : ℕ). slice_get ys v ≡ Some y) k e))
one_by_test false a n g c o xs ys y s t who born d h e =
    h o y (sym (d.there o (is_other c o s)) ∙ e) ∙ sym (still a n o (t who o ∙ s))

pub one_added : (a : Account) (n g c : ℕ) (xs ys : List Order) → ListingTellsOpen a g n (Some c) → a.log.who n ≡ g
    → nat_le (a.log.birth c) n ≡ true → AddsAt c g xs ys → AreOrdersTo a n xs → AreOrdersTo a (n + 1) ys
one_added a n g c xs ys t who born d h = λ o y e. one_by_test (c == o) a n g c o xs ys y refl t who born d h e

unborn_by_test : (b : Bool) (a : Account) (n g c o : ℕ) → (c == o) ≡ b → ListingTellsOpen a g n (Some c) → a.log.who n ≡ g
    → nat_le (a.log.birth c) n ≡ false → order_to a (n + 1) o ≡ order_to a n o
unborn_by_test true a n g c o s t who off =
    subst (λ (v : ℕ). order_to a (n + 1) v ≡ order_to a n v) (sym (is_self c o s)) (unborn a n c off)
unborn_by_test false a n g c o s t who off = still a n o (t who o ∙ s)

pub not_born : (a : Account) (n g c : ℕ) (xs : List Order) → ListingTellsOpen a g n (Some c) → a.log.who n ≡ g
    → nat_le (a.log.birth c) n ≡ false → AreOrdersTo a n xs → AreOrdersTo a (n + 1) xs
not_born a n g c xs t who off h = λ o x e. h o x e ∙ sym (unborn_by_test (c == o) a n g c o refl t who off)

-- ---- the first place

pub begun : (a : Account) (n : ℕ) (xs : List Order) → AreBare n xs → AreOrdersTo a 0 xs
unfolding order_from
begun a n xs h = λ o x e.
    let d : 0 - a.log.birth o ≡ 0 = omega arith in
    h.each o x e ∙ sym (ap (λ (k : ℕ). order_from a o (a.log.birth o) k) d)
