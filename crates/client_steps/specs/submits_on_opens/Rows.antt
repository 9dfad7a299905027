-- The row of an operation that never went out.
use Rattle.std.specs.Prelude.{ℕ, Bool, false, None}
use Rattle.client_values.specs.declared.operations.shapes.Shape.{Shape}
use Rattle.client_rows.specs.declared.operation_rows.row.Row.{Row}

abbrev pub fresh_row : Shape → (cost create open_at : ℕ) → (unsettled : Bool) → Row
fresh_row shape cost create open_at unsettled =
    record {
      kind = shape.kind;
      unsettled = unsettled;
      firm = false;
      sent = false;
      asking = false;
      unanswered = false;
      charge = shape.charge;
      cost = cost;
      slot = 0;
      slot_number = 0;
      sequence = 0;
      outstanding_on = None;
      create = create;
      «open» = open_at;
      holders = 0;
      holders_end = 0;
      lower = 0;
      change = 0;
      filled = 0;
      dear = 0;
    }
