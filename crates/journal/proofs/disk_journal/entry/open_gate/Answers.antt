use Rattle.journal.proofs.disk_journal.Crash.{gated, ended, opened}
use Rattle.journal.proofs.disk_journal.entry.open_gate.Goals as goal

pub returns-in_err-write_at-clause-any_moment : goal.returns-in_err-write_at-clause-any_moment
returns-in_err-write_at-clause-any_moment g c = λ told front behind left shut ends only.
    gated g.D.Disk.seen g.D.Disk.may_leave g.D.Disk.moment g.D.Disk.left_since g.met.D.Disk.only_now front behind left
    c.args.gate shut c.args.disk.now ends only
    c.write_at.new.self c.write_at.ensures.crash c.write_at.ensures.time

pub returns-in_err-sync-clause-any_moment : goal.returns-in_err-sync-clause-any_moment
returns-in_err-sync-clause-any_moment g c = λ told front behind left shut ends only.
    ended g.D.Disk.seen g.D.Disk.may_leave g.D.Disk.moment g.D.Disk.left_since g.met.D.Disk.only_now front behind left
    c.args.gate shut c.args.disk.now ends only
    c.write_at.new.self c.write_at.ensures.crash c.write_at.ensures.time c.sync.new.self c.sync.ensures.crash c.sync.ensures.time

pub returns-clause-any_moment : goal.returns-clause-any_moment
returns-clause-any_moment g c = λ told front behind left shut ends only.
    ended g.D.Disk.seen g.D.Disk.may_leave g.D.Disk.moment g.D.Disk.left_since g.met.D.Disk.only_now front behind left
    c.args.gate shut c.args.disk.now ends only
    c.write_at.new.self c.write_at.ensures.crash c.write_at.ensures.time c.sync.new.self c.sync.ensures.crash c.sync.ensures.time

pub returns-clause-done : goal.returns-clause-done
returns-clause-done g c = λ told front behind left shut ends only.
    opened g.D.Disk.seen g.D.Disk.may_leave g.D.Disk.moment g.D.Disk.left_since g.met.D.Disk.only_now front behind left
    c.args.gate shut c.args.disk.now ends only c.write_at.new.self c.sync.new.self
    (c.in_ok-write_at.ensures.written told) (c.in_ok-sync.ensures.durable told) (c.sync.ensures.seen told)
