use Rattle.std.proofs.Common.{◌-◌}
use Rattle.journal.specs.disk_journal.Ahead.{PutSoFar}
use Rattle.journal.proofs.disk_journal.ahead.put_pieces.Given as goal

abbrev pub invariant-loop-at : goal.invariant-loop-at
invariant-loop-at g l = PutSoFar g.D.Disk.told g.D.Disk.seen g.D.Disk.may_leave g.D.Disk.moment g.D.Disk.left_since
    g.D.Disk.faults l.gate l.from l.initial.disk l.disk l.at

abbrev pub decreases-loop-at : goal.decreases-loop-at
decreases-loop-at g l = l.end - l.at
