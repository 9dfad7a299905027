use Rattle.journal.proofs.disk_journal.Chain.{opened_first, put_behind, synced, next_done}
use Rattle.journal.proofs.disk_journal.entry.write_next.Goals as goal

pub returns-in_err-write_at-clause-any_moment : goal.returns-in_err-write_at-clause-any_moment
returns-in_err-write_at-clause-any_moment g c = λ told front entry rest shut last waits only.
    opened_first g.D.Disk.seen g.D.Disk.may_leave g.D.Disk.moment g.D.Disk.left_since g.met.D.Disk.only_now front entry rest
    c.args.behind.now c.args.gate c.args.next shut last c.args.disk.now waits only
    c.write_at.new.self c.write_at.ensures.crash c.write_at.ensures.time

pub returns-in_err-write_at-2-clause-any_moment : goal.returns-in_err-write_at-2-clause-any_moment
returns-in_err-write_at-2-clause-any_moment g c = λ told front entry rest shut last waits only.
    put_behind g.D.Disk.seen g.D.Disk.may_leave g.D.Disk.moment g.D.Disk.left_since g.met.D.Disk.only_now front entry rest
    c.args.behind.now c.args.gate c.args.next shut last c.args.disk.now waits only
    c.write_at.new.self c.write_at.ensures.crash c.write_at.ensures.time
    c.write_at-2.new.self c.write_at-2.ensures.crash c.write_at-2.ensures.time

pub returns-in_err-sync-clause-any_moment : goal.returns-in_err-sync-clause-any_moment
returns-in_err-sync-clause-any_moment g c = λ told front entry rest shut last waits only.
    synced g.D.Disk.seen g.D.Disk.may_leave g.D.Disk.moment g.D.Disk.left_since g.met.D.Disk.only_now front entry rest
    c.args.behind.now c.args.gate c.args.next shut last c.args.disk.now waits only
    c.write_at.new.self c.write_at.ensures.crash c.write_at.ensures.time
    c.write_at-2.new.self c.write_at-2.ensures.crash c.write_at-2.ensures.time
    c.sync.new.self c.sync.ensures.crash c.sync.ensures.time

pub returns-clause-any_moment : goal.returns-clause-any_moment
returns-clause-any_moment g c = λ told front entry rest shut last waits only.
    synced g.D.Disk.seen g.D.Disk.may_leave g.D.Disk.moment g.D.Disk.left_since g.met.D.Disk.only_now front entry rest
    c.args.behind.now c.args.gate c.args.next shut last c.args.disk.now waits only
    c.write_at.new.self c.write_at.ensures.crash c.write_at.ensures.time
    c.write_at-2.new.self c.write_at-2.ensures.crash c.write_at-2.ensures.time
    c.sync.new.self c.sync.ensures.crash c.sync.ensures.time

pub returns-clause-done : goal.returns-clause-done
returns-clause-done g c = λ told front entry rest shut last waits only.
    next_done g.D.Disk.seen g.D.Disk.may_leave g.D.Disk.moment g.D.Disk.left_since g.met.D.Disk.only_now front entry rest
    c.args.behind.now c.args.gate c.args.next shut last c.args.disk.now waits only
    c.write_at.new.self c.write_at-2.new.self c.sync.new.self
    (c.in_ok-write_at.ensures.written told) (c.in_ok-write_at-2.ensures.written told)
    (c.in_ok-sync.ensures.durable told) (c.sync.ensures.seen told)
