-- Lists of numbers, one for each create, of which one grows; and the orders that are made of them.
use Rattle.std.proofs.Common.{◌≡◌, ℕ, zero, suc, ◌+◌, ◌-◌, ◌<◌, ◌≤◌, ◌==◌, Bool, true, false, if◌then◌else◌, refl, sym, ap, subst, ◌∙◌, arith}
use Rattle.std.proofs.Common.{List, [], ◌∷◌, ◌++◌, length, set, get_or, slice_get, take, take_all, Option, Some, None, Result, Ok, Err, OnOk, append-nil}
use Rattle.std.proofs.Math.ListN.{length-set}
use Rattle.std.proofs.lemmas.Bool.Decides.{nat_tests}
use Rattle.std.proofs.lemmas.List.Elements.{filter-append}
use Rattle.std.proofs.lemmas.Option.{slice_get_read, slice_get_within}
use Rattle.client_values.specs.declared.operations.values.OpKind.{OpKind}
use Rattle.client_values.specs.declared.outcomes.outcome.Outcome.{Outcome as Settled}
use Rattle.spec_exchange.specs.Order.{is_at}
use Rattle.script_words.specs.declared.outcome_lines.orders.CreateOrder.{CreateOrder}
use Rattle.run_command.specs.Listing.{AddsReceipt, AreNumbersOf, ListsMore, ListsNext, at_number, has_order_in, is_listed_on, listed_in}
use Rattle.run_command.specs.Listing.{numbers_on, receipt_order, receipt_orders}

pub on_ok : {T E P Q : Type 0} (r : Result T E) → (P → Q) → OnOk r P → OnOk r Q
on_ok (Ok x) f h = f h
on_ok (Err e) f h = tt

none_of : {X : Type 0} (x : X) → None ≡ Some x → ⊥
none_of x e = absurd (cc)

pub some_of : {X : Type 0} (x y : X) → Some x ≡ Some y → x ≡ y
some_of x y e = cc

-- ---- one grows

set_here : (xs : List (List ℕ)) (k : ℕ) (v x : List ℕ) → slice_get xs k ≡ Some x → slice_get (set xs k v) k ≡ Some v
set_here [] k v x e = absurd (none_of x e)
set_here (y ∷ xs) zero v x e = refl
set_here (y ∷ xs) (suc k) v x e = set_here xs k v x e

set_there : (xs : List (List ℕ)) (k j : ℕ) (v : List ℕ) → (j ≡ k → ⊥) → slice_get (set xs k v) j ≡ slice_get xs j
set_there [] k j v other = refl
set_there (y ∷ xs) zero zero v other = absurd (other refl)
set_there (y ∷ xs) zero (suc j) v other = refl
set_there (y ∷ xs) (suc k) zero v other = refl
set_there (y ∷ xs) (suc k) (suc j) v other = set_there xs k j v (λ e. other (ap suc e))

-- what was lent of it has one number more
pub one_lent : (xs : List (List ℕ)) (k g : ℕ) (v u : List ℕ) → u ≡ get_or xs k u → k < length xs → v ≡ u ++ g ∷ []
    → ListsMore k g xs (set xs k v)
one_lent xs k g v u e l more =
    let was : slice_get xs k ≡ Some u = slice_get_read xs (length xs) k u refl l e in
    record {
      counted = length-set xs k v;
      here = λ y d. (u, was, sym (some_of v y (sym (set_here xs k v u was) ∙ d)) ∙ more);
      there = λ j other. set_there xs k j v other;
    }

pub none_lent : (xs : List (List ℕ)) (k g : ℕ) → (k < length xs → ⊥) → ListsMore k g xs xs
none_lent xs k g past = record {
  counted = refl;
  here = λ y d. absurd (past (slice_get_within xs k y d));
  there = λ j other. refl;
}

-- ---- so many without a number

more_each : (xs : List (List ℕ)) (y : List ℕ) → y ≡ [] → ((o : ℕ) (x : List ℕ) → slice_get xs o ≡ Some x → x ≡ [])
    → (o : ℕ) (x : List ℕ) → slice_get (xs ++ y ∷ []) o ≡ Some x → x ≡ []
more_each [] y c h zero x e = sym (some_of y x e) ∙ c
more_each [] y c h (suc k) x e = absurd (none_of x e)
more_each (v ∷ xs) y c h zero x e = h zero x e
more_each (v ∷ xs) y c h (suc k) x e = more_each xs y c (λ j u d. h (suc j) u d) k x e

pub one_longer : {X : Type 0} (xs : List X) (y : X) → length (xs ++ y ∷ []) ≡ length xs + 1
one_longer [] y = refl
one_longer (x ∷ xs) y =
    let e : suc (length (xs ++ y ∷ [])) ≡ suc (length xs) + 1 = (let d = one_longer xs y in omega (arith, d)) in e

pub one_bare : (n : ℕ) (xs : List (List ℕ)) (y : List ℕ) → y ≡ [] → ((ops : List OpKind) → AreNumbersOf ops [] n xs)
    → (ops : List OpKind) → AreNumbersOf ops [] (n + 1) (xs ++ y ∷ [])
one_bare n xs y c h ops = record {
  counted = one_longer xs y ∙ ap (λ (m : ℕ). m + 1) (h ops).counted;
  each = more_each xs y c (h ops).each;
}

pub none_bare : (ops : List OpKind) → AreNumbersOf ops [] 0 []
none_bare ops = record { counted = refl; each = λ k x e. absurd (none_of x e) }

-- ---- an order with a number more

abbrev one_if : Bool → ℕ → List ℕ
one_if b g = if b then g ∷ [] else []

grows : (ops : List OpKind) (order : List ℕ) (g o : ℕ) → numbers_on ops (order ++ g ∷ []) o
    ≡ numbers_on ops order o ++ one_if (is_listed_on ops o g) g
grows ops order g o =
    filter-append (is_listed_on ops o) order (g ∷ [])
    ∙ ap (λ (l : List ℕ). numbers_on ops order o ++ l) (alone (is_listed_on ops o g))
  where
    alone : (b : Bool) → (if b then g ∷ [] else []) ≡ one_if b g
    alone true = refl
    alone false = refl

not_at : (o : ℕ) (told : Option ℕ) → told ≡ None → is_at o told ≡ false
not_at o None e = refl
not_at o (Some c) e = absurd (cc)

self : (c : ℕ) → (c == c) ≡ true
self c = grind (arith, nat_tests)

is_self : (c o : ℕ) → (c == o) ≡ true → o ≡ c
is_self c o e = grind (arith, nat_tests)

is_other : (c o : ℕ) → (c == o) ≡ false → o ≡ c → ⊥
is_other c o e d = grind (arith, nat_tests)

pub none_next : (ops : List OpKind) (g : ℕ) (xs : List (List ℕ)) → None ≡ listed_in (at_number ops g) → ListsNext ops g xs xs
none_next ops g xs told order count h = record {
  counted = h.counted;
  each = λ o x e. h.each o x e ∙ sym (grows ops order g o
      ∙ (ap (λ (b : Bool). numbers_on ops order o ++ one_if b g) (not_at o (listed_in (at_number ops g)) (sym told))
      ∙ append-nil (numbers_on ops order o)));
}

by_test : (b : Bool) (ops : List OpKind) (g c : ℕ) (xs ys : List (List ℕ)) (order : List ℕ) (count o : ℕ) (x : List ℕ)
    → (c == o) ≡ b → listed_in (at_number ops g) ≡ Some c → ListsMore c g xs ys → AreNumbersOf ops order count xs
    → slice_get ys o ≡ Some x → x ≡ numbers_on ops (order ++ g ∷ []) o
by_test true ops g c xs ys order count o x s told d h e =
    let k = is_self c o s in
    let was = d.here x (subst (λ (v : ℕ). slice_get ys v ≡ Some x) k e) in
    was.2
    ∙ (ap (λ (l : List ℕ). l ++ g ∷ []) (h.each c was.0 was.1)
    ∙ (ap (λ (v : ℕ). numbers_on ops order v ++ g ∷ []) (sym k)
    ∙ sym (grows ops order g o
    ∙ ap (λ (b : Bool). numbers_on ops order o ++ one_if b g) (ap (is_at o) told ∙ s))))
by_test false ops g c xs ys order count o x s told d h e =
    h.each o x (sym (d.there o (is_other c o s)) ∙ e)
    ∙ sym (grows ops order g o
    ∙ (ap (λ (b : Bool). numbers_on ops order o ++ one_if b g) (ap (is_at o) told ∙ s) ∙ append-nil (numbers_on ops order o)))

pub one_next : (ops : List OpKind) (g c : ℕ) (xs ys : List (List ℕ)) → Some c ≡ listed_in (at_number ops g) → ListsMore c g xs ys
    → ListsNext ops g xs ys
one_next ops g c xs ys told d order count h = record {
  counted = d.counted ∙ h.counted;
  each = λ o x e. by_test (c == o) ops g c xs ys order count o x refl (sym told) d h e;
}

-- ---- the orders that are printed

pub none_added : (lists : List (List ℕ)) (place : ℕ) (old : List CreateOrder) → AddsReceipt false lists place old old
none_added lists place old = λ numbers e. sym (append-nil old)

abbrev with_numbers : ℕ → List ℕ → CreateOrder
with_numbers create numbers = record { create = create; numbers = numbers }

pub one_added : (lists : List (List ℕ)) (place create : ℕ) (own held : List ℕ) (old new : List CreateOrder) → create ≡ place + 1
    → slice_get lists (place + 1) ≡ Some own → held ≡ own → new ≡ old ++ with_numbers create held ∷ []
    → AddsReceipt true lists place old new
one_added lists place create own held old new is there same adds = λ numbers e.
    adds
    ∙ (ap (λ (n : ℕ). old ++ with_numbers n held ∷ []) is
    ∙ ap (λ (l : List ℕ). old ++ with_numbers (place + 1) l ∷ []) (same ∙ some_of own numbers (sym there ∙ e)))

abbrev order_if : Bool → ℕ → List ℕ → List CreateOrder
order_if b number numbers = if b then with_numbers number numbers ∷ [] else []

some_number : (n : ℕ) → (n + 1 == 0) ≡ false
some_number n = grind (arith, nat_tests)

-- what has the next number stands at the place
pub at_next : {X : Type 0} (xs : List X) (n : ℕ) → at_number xs (n + 1) ≡ slice_get xs n
at_next xs n =
    let e : n + 1 - 1 ≡ n = omega arith in
    ap (λ (b : Bool). if b then None else slice_get xs (n + 1 - 1)) (some_number n) ∙ ap (λ (k : ℕ). slice_get xs k) e

list_there : (xs : List (List ℕ)) (n : ℕ) → n < length xs → (x : List ℕ) × (slice_get xs n ≡ Some x)
list_there [] n l = absurd (let h = l in omega (arith, h))
list_there (x ∷ xs) zero l = (x, refl)
list_there (x ∷ xs) (suc n) l = list_there xs n (let h = l in omega (arith, h))

next_ordered : (ops : List OpKind) (outcomes : List Settled) (place : ℕ) → has_order_in (slice_get ops place) (slice_get outcomes place)
    ≡ has_order_in (at_number ops (place + 1)) (at_number outcomes (place + 1))
next_ordered ops outcomes place =
    ap (λ (o : Option OpKind). has_order_in o (slice_get outcomes place)) (sym (at_next ops place))
    ∙ ap (λ (o : Option Settled). has_order_in (at_number ops (place + 1)) o) (sym (at_next outcomes place))

-- those of one operation more
pub more_receipts : (ops : List OpKind) (outcomes : List Settled) (order : List ℕ) (lists : List (List ℕ)) (old new : List CreateOrder)
    (place : ℕ) (ordered : Bool) → ordered ≡ has_order_in (slice_get ops place) (slice_get outcomes place) → place + 1 < length lists
    → AreNumbersOf ops order (length ops + 1) lists → AddsReceipt ordered lists place old new
    → old ≡ receipt_orders ops outcomes order place → new ≡ receipt_orders ops outcomes order (suc place)
unfolding receipt_orders
more_receipts ops outcomes order lists old new place ordered is within h adds so_far =
    let own = list_there lists (place + 1) within in
    adds own.0 own.1
    ∙ (ap (λ (l : List ℕ). old ++ order_if ordered (place + 1) l) (h.each (place + 1) own.0 own.1)
    ∙ (ap (λ (b : Bool). old ++ order_if b (place + 1) (numbers_on ops order (place + 1))) (is ∙ next_ordered ops outcomes place)
    ∙ ap (λ (l : List CreateOrder). l ++ receipt_order ops outcomes order (place + 1)) so_far))

pub no_receipts : (ops : List OpKind) (outcomes : List Settled) (order : List ℕ) → [] ≡ receipt_orders ops outcomes order 0
unfolding receipt_orders
no_receipts ops outcomes order = refl

pub all_receipts : (ops : List OpKind) (outcomes : List Settled) (order : List ℕ) (orders : List CreateOrder) (place count : ℕ)
    → place ≤ count → count ≤ place → orders ≡ receipt_orders ops outcomes order place → orders ≡ receipt_orders ops outcomes order count
all_receipts ops outcomes order orders place count low high so_far =
    let same : place ≡ count = omega (arith, low, high) in
    so_far ∙ ap (λ (n : ℕ). receipt_orders ops outcomes order n) same

-- ---- the whole order

pub begun : (ops : List OpKind) (order : List ℕ) (n count : ℕ) (xs : List (List ℕ)) → n ≡ count → AreNumbersOf ops [] n xs
    → AreNumbersOf ops (take 0 order) count xs
begun ops order n count xs same h = subst (λ (k : ℕ). AreNumbersOf ops [] k xs) same h

pub goes_on : (ops : List OpKind) (order : List ℕ) (place count : ℕ) (xs ys : List (List ℕ)) → place < length order
    → AreNumbersOf ops (take place order) count xs → ListsNext ops (get_or order place 0) xs ys
    → AreNumbersOf ops (take (place + 1) order) count ys
goes_on ops order place count xs ys l h next =
    subst (λ (front : List ℕ). AreNumbersOf ops front count ys) (sym (take_more order place l)) (next (take place order) count h)
  where
    take_more : (xs : List ℕ) (n : ℕ) → n < length xs → take (n + 1) xs ≡ take n xs ++ get_or xs n 0 ∷ []
    take_more [] n l = absurd (let h = l in omega (arith, h))
    take_more (x ∷ xs) zero l = refl
    take_more (x ∷ xs) (suc n) l =
        let e : suc n + 1 ≡ suc (n + 1) = omega arith in
        rw e (ap (λ (v : List ℕ). x ∷ v) (take_more xs n (let h = l in omega (arith, h))))

pub all_listed : (ops : List OpKind) (order : List ℕ) (place count : ℕ) (xs : List (List ℕ)) → length order ≤ place
    → AreNumbersOf ops (take place order) count xs → AreNumbersOf ops order count xs
all_listed ops order place count xs l h = subst (λ (front : List ℕ). AreNumbersOf ops front count xs) (take_all place order l) h

pub next : (n : ℕ) → suc n ≡ n + 1
next n = omega arith
