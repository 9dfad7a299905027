use Rattle.std.proofs.Common.{◌-◌}
use Rattle.server_core.proofs.SoFar.{FoldedSoFar}
use Rattle.server_core.proofs.folding.fold_bodies.Given as goal

abbrev pub invariant-loop-body : goal.invariant-loop-body
invariant-loop-body g l = FoldedSoFar g.D.Disk.told g.D.Disk.seen g.D.Disk.may_leave g.D.Disk.moment g.D.Disk.left_since
    g.D.Disk.faults l.initial.journal l.initial.state l.journal l.state l.behind

abbrev pub decreases-loop-body : goal.decreases-loop-body
decreases-loop-body g l = l.journal.end - l.journal.next
