use Rattle.std.proofs.Common.{length, ◌-◌}
use Rattle.journal.specs.disk_journal.Read.{Filled}
use Rattle.journal.proofs.disk_journal.read.fill.Given as goal

abbrev pub invariant-loop-done : goal.invariant-loop-done
invariant-loop-done g l = Filled g.D.Disk.told g.D.Disk.seen g.D.Disk.may_leave g.D.Disk.moment g.D.Disk.left_since
    g.D.Disk.faults l.initial.disk l.disk l.at l.done l.into

abbrev pub decreases-loop-done : goal.decreases-loop-done
decreases-loop-done g l = length l.initial.into - l.done
