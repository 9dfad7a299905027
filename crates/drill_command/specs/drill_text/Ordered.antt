-- Which creates have an order that is printed, by what a client in code keeps of them.
use Rattle.std.specs.Prelude.{◌≡◌, ℕ, ◌+◌, ◌<◌, Bool, false, if◌then◌else◌, List, [], ◌∷◌, ◌++◌, length, slice_get, Option, Some, None}
use Rattle.client_values.specs.outcomes.Meaning.{outcome_of}
use Rattle.client_values.specs.declared.outcomes.outcome.Outcome.{Outcome}
use Rattle.spec_exchange.specs.Network.{World}
use Rattle.spec_exchange.specs.Order.{order_of}
use Rattle.spec_exchange.specs.Runs.{account}
use Rattle.client_values.specs.operations.Meaning.{op_of}
use Rattle.client_values.specs.declared.operations.values.OpKind.{OpKind}
use Rattle.script_words.specs.outcome_lines.Text.{has_order}
use Rattle.script_words.specs.declared.outcome_lines.orders.CreateOrder.{CreateOrder}
use Rattle.world_ends.specs.results.Listing.{AreOrders}
use Rattle.world_ends.specs.declared.results.ordering.Order.{Order}

abbrev pub ordered_with : OpKind → Option Outcome → Bool
ordered_with kind None = false
ordered_with kind (Some outcome) = has_order (op_of kind) (outcome_of outcome)

abbrev pub ordered_in : Option OpKind → Option Outcome → Bool
ordered_in None o = false
ordered_in (Some kind) o = ordered_with kind o

-- the operations and outcomes at their places tell whose order is printed in a world
pub record IsToldBy (w : World) (ops : List OpKind) (settled : List Outcome) : Type 0 where
  pub counted : length ops ≡ w.client.taken
  pub ordered : (n : ℕ) → n < length ops
      → ordered_in (slice_get ops n) (slice_get settled n) ≡ has_order (w.client.op (n + 1)) (w.client.outcome (n + 1))

-- the order of the operation at a place, where it is printed
abbrev pub AddsOrder : Bool → List Order → List CreateOrder → ℕ → List CreateOrder → Type 0
AddsOrder ordered told old place new =
    (w : World) → AreOrders w.client.taken (account w) told
    → new ≡ old ++ (if ordered then record { create = place + 1; numbers = order_of (account w) (place + 1) } ∷ [] else [])
