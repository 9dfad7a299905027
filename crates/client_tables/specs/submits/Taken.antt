-- The row of an operation that is taken.
use Rattle.std.specs.Prelude.{◌≡◌, ℕ, true, false, None}
use Rattle.spec_exchange.specs.Operations.{Op, charge, create_of, is_firm, is_unsettled, weight}
use Rattle.spec_exchange.specs.Client.{Client, outcome_at_first, take_op}
use Rattle.spec_exchange.specs.Schedules.{cost}
use Rattle.client_values.specs.operations.Waiting.{kind_of}
use Rattle.client_rows.specs.declared.operation_rows.row.Row.{Row}

-- it never went out, and stands as the model's client takes it
pub record IsRowOf (r : Row) (c : Client) (n : ℕ) (op : Op) : Type 0 where
  pub kind_is : kind_of op ≡ r.kind
  pub create_is : create_of n op ≡ r.create
  pub charge_is : charge (weight op) ≡ r.charge
  pub unsettled_is : is_unsettled (outcome_at_first c n op) ≡ r.unsettled
  pub firm_is : is_firm (outcome_at_first c n op) ≡ r.firm
  pub cost_is : r.unsettled ≡ true → cost (take_op c n op) n ≡ r.cost
  pub sent_is : r.sent ≡ false
  pub out_is : r.outstanding_on ≡ None
  pub asks_is : r.asking ≡ false
  pub unanswered_is : r.unanswered ≡ false
  pub sequence_is : r.sequence ≡ 0
  pub slot_is : r.slot ≡ 0
  pub number_is : r.slot_number ≡ 0
