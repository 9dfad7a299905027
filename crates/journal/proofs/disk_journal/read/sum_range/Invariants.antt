use Rattle.std.proofs.Common.{◌-◌}
use Rattle.journal.specs.disk_journal.Read.{SummedSoFar}
use Rattle.journal.proofs.disk_journal.read.sum_range.Given as goal

abbrev pub invariant-loop-done : goal.invariant-loop-done
invariant-loop-done g l = SummedSoFar g.D.Disk.told g.D.Disk.seen g.D.Disk.may_leave g.D.Disk.moment g.D.Disk.left_since
    g.D.Disk.faults l.initial.disk l.disk l.at l.count l.done l.initial.sum l.sum

abbrev pub decreases-loop-done : goal.decreases-loop-done
decreases-loop-done g l = l.count - l.done
