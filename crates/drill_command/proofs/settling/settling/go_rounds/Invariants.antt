use Rattle.drill_command.proofs.settling.Rounds.{AreReached}
use Rattle.drill_command.proofs.settling.settling.go_rounds.Given as goal

abbrev pub invariant-loop-left : goal.invariant-loop-left
invariant-loop-left l = AreReached l.fn.world l.world l.left l.most

abbrev pub decreases-loop-left : goal.decreases-loop-left
decreases-loop-left l = l.left
