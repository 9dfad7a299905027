use Rattle.std.proofs.Common.{◌-◌}
use Rattle.journal.specs.disk_journal.Gather.{Gathered}
use Rattle.journal.proofs.disk_journal.journal.Journal.rest.Given as goal

abbrev pub invariant-loop-body : goal.invariant-loop-body
invariant-loop-body g l = Gathered g.D.Disk.told g.D.Disk.seen g.D.Disk.may_leave g.D.Disk.moment g.D.Disk.left_since
    g.D.Disk.faults l.initial.self l.self l.list

abbrev pub decreases-loop-body : goal.decreases-loop-body
decreases-loop-body g l = l.self.end - l.self.next
