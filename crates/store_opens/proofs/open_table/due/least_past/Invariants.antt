use Rattle.std.proofs.Common.{◌≡◌}
use Rattle.store_opens.specs.open_table.Due.{least_from, least_past_in}
use Rattle.store_opens.proofs.open_table.due.least_past.Given as goal

abbrev pub invariant-loop-id : goal.invariant-loop-id
invariant-loop-id l = least_from l.now l.least l.id-iterator ≡ least_past_in l.now l.rows.entries
