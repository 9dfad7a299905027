use Rattle.std.proofs.Common.{◌-◌, length}
use Rattle.client_rows.proofs.operation_rows.Finding.{Finds}
use Rattle.client_rows.proofs.operation_rows.choosing.find_from.Given as goal

abbrev pub invariant-loop-from : goal.invariant-loop-from
invariant-loop-from l = Finds l.fn.rows l.holders l.fn.prices l.fn.watchers l.rows l.prices l.watchers l.start l.from l.credits

abbrev pub decreases-loop-from : goal.decreases-loop-from
decreases-loop-from l = length l.rows - l.from
