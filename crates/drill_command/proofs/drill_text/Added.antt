-- The orders of creates, one operation after the other.
use Rattle.std.proofs.Common.{◌≡◌, ℕ, suc, ◌+◌, ◌<◌, ◌≤◌, Bool, true, false, if◌then◌else◌, refl, sym, ap, subst, ◌∙◌}
use Rattle.std.proofs.Common.{arith, List, [], ◌∷◌, ◌++◌, length, slice_get, IfOk, OnOk, Result, Ok, Err}
use Rattle.std.proofs.Common.{append-nil}
use Rattle.spec_exchange.specs.Network.{World}
use Rattle.spec_exchange.specs.Order.{order_of}
use Rattle.spec_exchange.specs.Runs.{account}
use Rattle.client_values.specs.declared.outcomes.outcome.Outcome.{Outcome}
use Rattle.client_values.specs.declared.operations.values.OpKind.{OpKind}
use Rattle.script_words.specs.declared.outcome_lines.orders.CreateOrder.{CreateOrder}
use Rattle.drill_command.specs.drill_text.Ordered.{AddsOrder, IsToldBy, ordered_in}
use Rattle.drill_command.specs.drill_text.Text.{order_at, orders_to}
use Rattle.world_ends.specs.results.Listing.{AreOrders}
use Rattle.world_ends.specs.declared.results.ordering.Order.{Order}

pub ok_with : {T E : Type 0} {P Q : T → Type 0} (r : Result T E) → ((x : T) → P x → Q x) → IfOk r P → IfOk r Q
ok_with (Ok x) f h = f x h
ok_with (Err e) f h = h

pub ok_so : {T E P Q : Type 0} (r : Result T E) → (P → Q) → OnOk r P → OnOk r Q
ok_so (Ok x) f h = f h
ok_so (Err e) f h = h

abbrev pub with_numbers : ℕ → List ℕ → CreateOrder
with_numbers create numbers = record { create = create; numbers = numbers }

abbrev pub order_with : World → ℕ → CreateOrder
order_with w create = record { create = create; numbers = order_of (account w) create }

-- an order that isn't printed
pub none_added : (told : List Order) (old : List CreateOrder) (place : ℕ) → AddsOrder false told old place old
none_added told old place = λ w are. sym (append-nil old)

-- one that is
pub one_added : (told : List Order) (old new : List CreateOrder) (create place : ℕ) → create ≡ place + 1
    → ((w : World) → AreOrders w.client.taken (account w) told → new ≡ old ++ order_with w create ∷ []) → AddsOrder true told old place new
one_added told old new create place is adds = λ w are.
    subst (λ (n : ℕ). new ≡ old ++ order_with w n ∷ []) is (adds w are)

abbrev order_if : Bool → World → ℕ → List CreateOrder
order_if b w g = if b then order_with w g ∷ [] else []

-- those of one operation more
pub more_told : (w : World) (ops : List OpKind) (settled : List Outcome) (told : List Order) (old new : List CreateOrder) (place : ℕ)
    (ordered : Bool) → ordered ≡ ordered_in (slice_get ops place) (slice_get settled place) → place < length ops
    → IsToldBy w ops settled → AreOrders w.client.taken (account w) told → AddsOrder ordered told old place new → old ≡ orders_to w place
    → new ≡ orders_to w (suc place)
unfolding orders_to
more_told w ops settled told old new place ordered is within h are adds so_far =
    adds w are
    ∙ (ap (λ (b : Bool). old ++ order_if b w (place + 1)) (is ∙ h.ordered place within)
    ∙ ap (λ (l : List CreateOrder). l ++ order_at w (place + 1)) so_far)

pub next : (place behind : ℕ) → behind ≡ place + 1 → suc place ≡ behind
next place behind e = omega (arith, e)

pub first : (w : World) → [] ≡ orders_to w 0
unfolding orders_to
first w = refl

pub all_told : (w : World) (ops : List OpKind) (settled : List Outcome) (orders : List CreateOrder) (place : ℕ) → IsToldBy w ops settled
    → place ≤ length ops → length ops ≤ place → orders ≡ orders_to w place → orders ≡ orders_to w w.client.taken
all_told w ops settled orders place h low high so_far =
    let same : place ≡ w.client.taken = (let n = h.counted in omega (arith, low, high, n)) in
    so_far ∙ ap (λ (n : ℕ). orders_to w n) same
