use Rattle.journal.proofs.disk_journal.Forward.{begun, read_ahead, run_behind}
use Rattle.journal.proofs.disk_journal.ahead.fill_ahead.Goals as goal

pub returns-in_err-sync-clause-any_moment : goal.returns-in_err-sync-clause-any_moment
returns-in_err-sync-clause-any_moment g c = λ told front rest shut ends only.
    let first = read_ahead g.D.Disk.seen g.D.Disk.may_leave front rest c.args.gate shut c.args.disk.now c.length.new.self ends only
    (c.length.ensures.seen told) c.length.ensures.crash in
    let put = c.in_ok-whole.ensures.stays told front rest shut first.0 first.1 in
    run_behind g.D.Disk.seen g.D.Disk.may_leave g.D.Disk.moment g.D.Disk.left_since g.met.D.Disk.only_now front shut c.args.disk.now c.length.new.self c.put_pieces.new.disk c.sync.new.self
    (begun g.D.Disk.seen g.D.Disk.may_leave g.D.Disk.moment g.D.Disk.left_since g.met.D.Disk.only_now front rest c.args.gate shut c.args.disk.now ends only)
    c.length.ensures.crash c.length.ensures.time put c.sync.ensures.crash c.sync.ensures.time

pub returns-clause-any_moment : goal.returns-clause-any_moment
returns-clause-any_moment g c = λ told front rest shut ends only.
    let first = read_ahead g.D.Disk.seen g.D.Disk.may_leave front rest c.args.gate shut c.args.disk.now c.length.new.self ends only
    (c.length.ensures.seen told) c.length.ensures.crash in
    let put = c.in_ok-whole.ensures.stays told front rest shut first.0 first.1 in
    run_behind g.D.Disk.seen g.D.Disk.may_leave g.D.Disk.moment g.D.Disk.left_since g.met.D.Disk.only_now front shut c.args.disk.now c.length.new.self c.put_pieces.new.disk c.sync.new.self
    (begun g.D.Disk.seen g.D.Disk.may_leave g.D.Disk.moment g.D.Disk.left_since g.met.D.Disk.only_now front rest c.args.gate shut c.args.disk.now ends only)
    c.length.ensures.crash c.length.ensures.time put c.sync.ensures.crash c.sync.ensures.time
