use Rattle.std.proofs.Common.{length}
use Rattle.wire_commands.proofs.reading.Clashing.{Going}
use Rattle.wire_commands.proofs.reading.clashes.clash_in.Given as goal

abbrev pub invariant-loop-names : goal.invariant-loop-names
invariant-loop-names l = Going l.initial.bytes l.rest l.names

abbrev pub decreases-loop-names : goal.decreases-loop-names
decreases-loop-names l = length l.rest
