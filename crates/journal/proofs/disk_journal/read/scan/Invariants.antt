use Rattle.std.proofs.Common.{◌-◌}
use Rattle.journal.specs.disk_journal.Read.{Scanned}
use Rattle.journal.proofs.disk_journal.read.scan.Given as goal

abbrev pub invariant-loop-length : goal.invariant-loop-length
invariant-loop-length g l = Scanned g.D.Disk.told g.D.Disk.seen g.D.Disk.may_leave g.D.Disk.moment g.D.Disk.left_since
    g.D.Disk.faults l.initial.disk l.disk l.form l.end l.gate l.used l.count

abbrev pub decreases-loop-length : goal.decreases-loop-length
decreases-loop-length g l = l.end - l.gate
