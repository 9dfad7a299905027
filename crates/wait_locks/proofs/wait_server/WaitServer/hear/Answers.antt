use Rattle.std.proofs.Common.{refl, subst, sym}
use Rattle.server_checks.specs.Shown.{TablesShown}
use Rattle.server_checks.specs.declared.tables.Tables.{Tables}
use Rattle.wait_locks.proofs.Begins.{at_once_none, message_begun, not_heard, waits_begun}
use Rattle.wait_locks.proofs.wait_server.WaitServer.hear.Goals as goal

pub returns-then-at_once-clause-step : goal.returns-then-at_once-clause-step
returns-then-at_once-clause-step g c = λ w L records h none.
    message_begun g.D.Disk.told g.D.Disk.seen g.D.Disk.may_leave g.D.Disk.moment g.D.Disk.left_since g.D.Disk.faults c.args.self.now.server c.to_server.new.self c.args.finals.now.items w L records c.args.now
    c.args.at_once c.args.message c.to_server.result c.requires.0 (at_once_none c.args.at_once _ c.if-at_once.true)
    (c.to_server.ensures.step w L records h none)

pub returns-in-None-clause-step : goal.returns-in-None-clause-step
returns-in-None-clause-step g c = λ w L records h none.
    let P : Tables → Type 0 = λ t. TablesShown t w.server in let j = h.server.holds none in
    message_begun g.D.Disk.told g.D.Disk.seen g.D.Disk.may_leave g.D.Disk.moment g.D.Disk.left_since g.D.Disk.faults c.args.self.now.server c.to_server-in-None.new.self c.args.finals.now.items w L records c.args.now
    c.args.at_once c.args.message c.to_server-in-None.result c.requires.0
    (not_heard c.args.at_once w.server c.args.message
    (c.in-None.ensures.none refl w.server j.fits (subst P (sym c.tables.ensures) j.shown.tables))) (c.to_server-in-None.ensures.step w L records h none)

pub returns-in-Some-clause-step : goal.returns-in-Some-clause-step
returns-in-Some-clause-step g c = λ w L records h none.
    let P : Tables → Type 0 = λ t. TablesShown t w.server in let j = h.server.holds none in
    waits_begun g.D.Disk.told g.D.Disk.seen g.D.Disk.may_leave g.D.Disk.moment g.D.Disk.left_since g.D.Disk.faults c.args.self.now.server c.let_in.new.self c.let_in.new.finals.items w L records c.args.now
    c.args.at_once c.args.self.now c.args.message c.in-Some.waiter c.args.finals.now.items c.let_in.result refl c.if-at_once.false
    c.in-Some.ensures.some.0.message (c.in-Some.ensures.some.1 w.server j.fits (subst P (sym c.tables.ensures) j.shown.tables)).held h none c.requires.0
    c.let_in.ensures.rest (c.let_in.ensures.lists w h.waiters h.ids_given)
