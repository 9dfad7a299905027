use Rattle.client_rows.proofs.operation_rows.Walking.{Walks}
use Rattle.client_rows.proofs.operation_rows.chains.first_unsettled.Given as goal

abbrev pub invariant-loop-at : goal.invariant-loop-at
invariant-loop-at l = Walks l.chain l.fn.rows l.rows l.from l.at

abbrev pub decreases-loop-at : goal.decreases-loop-at
decreases-loop-at l = l.at
