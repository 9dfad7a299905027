use Rattle.client_rows.proofs.operation_rows.Changing.{Wakes}
use Rattle.client_rows.proofs.operation_rows.moves.wake.Given as goal

abbrev pub invariant-loop-at : goal.invariant-loop-at
invariant-loop-at l = Wakes l.rows l.fn.prices l.fn.watchers l.prices l.watchers l.index l.below

abbrev pub decreases-loop-at : goal.decreases-loop-at
decreases-loop-at l = l.below
