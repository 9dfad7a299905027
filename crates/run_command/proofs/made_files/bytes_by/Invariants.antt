use Rattle.std.proofs.Common.{length}
use Rattle.run_command.proofs.Made.{Reached}
use Rattle.run_command.proofs.made_files.bytes_by.Given as goal

abbrev pub invariant-loop-number : goal.invariant-loop-number
invariant-loop-number l = Reached l.ops l.settled l.numbers l.left l.content

abbrev pub decreases-loop-number : goal.decreases-loop-number
decreases-loop-number l = length l.left
