use Rattle.std.proofs.Common.{◌≤◌, length}
use Rattle.base_machine.proofs.journal_file.told_of.Given as goal

abbrev pub invariant-loop-at : goal.invariant-loop-at
invariant-loop-at l = l.told ≤ length l.piece
