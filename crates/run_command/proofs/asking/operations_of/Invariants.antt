use Rattle.std.proofs.Common.{◌≡◌, ◌++◌, length}
use Rattle.run_command.specs.Asking.{operations_said}
use Rattle.run_command.proofs.asking.operations_of.Given as goal

abbrev pub invariant-loop-line : goal.invariant-loop-line
invariant-loop-line l = l.kinds.items ++ operations_said l.lines.items ≡ operations_said l.initial.lines.items

abbrev pub decreases-loop-line : goal.decreases-loop-line
decreases-loop-line l = length l.lines.items
