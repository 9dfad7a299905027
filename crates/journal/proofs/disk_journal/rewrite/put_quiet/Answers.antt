use Rattle.journal.proofs.disk_journal.Quiet.{quiet_start, quiet_more}
use Rattle.journal.proofs.disk_journal.rewrite.put_quiet.Goals as goal

pub returns-clause-quiet : goal.returns-clause-quiet
returns-clause-quiet g c = quiet_more g.D.Disk.told g.D.Disk.seen g.D.Disk.may_leave g.D.Disk.moment g.D.Disk.left_since c.args.disk.now
    c.args.disk.now c.put_draft.new.self
    (quiet_start g.D.Disk.told g.D.Disk.seen g.D.Disk.may_leave g.D.Disk.moment g.D.Disk.left_since g.met.D.Disk.only_now c.args.disk.now)
    c.put_draft.ensures.seen c.put_draft.ensures.crash c.put_draft.ensures.time
