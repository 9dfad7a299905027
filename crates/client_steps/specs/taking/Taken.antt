-- What an operation finds that comes onto a table.
use Rattle.std.specs.Prelude.{◌≡◌, ℕ, ◌+◌, ◌<◌, ◌≤◌, true, List, [], ◌∷◌, length, vec_len, vec_capacity, ◌⊎◌}
use Rattle.std.specs.List.{sum_by}
use Rattle.spec_exchange.specs.Operations.{Op, keeps_limits}
use Rattle.spec_exchange.specs.Client.{Client, outcome_at_first}
use Rattle.base_lists.specs.number_set.Members.{HasMemberPlace}
use Rattle.client_values.specs.declared.operations.shapes.Shape.{Shape}
use Rattle.client_values.specs.operations.Waiting.{at_of, size_of}
use Rattle.client_rows.specs.declared.operation_rows.row.Row.{Row}
use Rattle.client_rows.specs.operation_rows.Rows.{no_row}
use Rattle.base_lists.specs.range_index.Shown.{top}
use Rattle.client_values.specs.declared.outcomes.outcome.Outcome.{Outcome as Settled}
use Rattle.client_tables.specs.settling.Shown.{outcome_by}
use Rattle.client_tables.specs.declared.opens.opening.Open.{Open}
use Rattle.client_tables.specs.opens.Opened.{IsOpenOn, ShowsOpen}
use Rattle.client_tables.specs.declared.whole_table.parts.Table.{Table}
use Rattle.client_tables.specs.whole_table.Shown.{ShowsTable, one_left}

-- room for the values of one more, for its number, and for the places of all that are unsettled and of one more
pub record HasRooms (t : Table) : Type 0 where
  pub ops : vec_len t.ops < vec_capacity t.ops
  pub settled : vec_len t.settled < vec_capacity t.settled
  pub out : HasMemberPlace t.out
  pub order : (length t.order.items + sum_by one_left t.rows.items) + 1 ≤ vec_capacity t.order

-- the rows stay, or row 0 comes where there were none
abbrev pub KeepsOrBegins : (old new : List Row) → Type 0
KeepsOrBegins old new = (new ≡ old) ⊎ ((old ≡ []) × (new ≡ no_row ∷ []))

-- an operation, its row and how it settles, onto an open with this create
pub record OperationTakesOn (t : Table) (o : Open) (c : Client) (op : Op) (create : ℕ) (shape : Shape) (row : Row)
    (outcome : Settled) : Type 0 where
  pub shown : ShowsTable t c
  pub next : length t.rows.items ≡ c.taken + 1
  pub on : IsOpenOn t.rows.items c op create (length t.rows.items) shape row
  pub marked : ShowsOpen t.rows.items (λ x. at_of (c.op x)) (λ x. size_of (c.op x)) create (length t.rows.items) o.marks
      (top o.written) (top o.locked)
  pub limits : keeps_limits op ≡ true
  pub first : outcome_at_first c (length t.rows.items) op ≡ outcome_by row.unsettled outcome
