use Rattle.std.proofs.Common.{ap, map, refl, subst, ◌∙◌}
use Rattle.law_waiting.specs.wait_steps.WaitStep.{staying_waiters}
use Rattle.server_core.specs.Shown.{config_of, stopped_of}
use Rattle.server_core.specs.declared.server.Server.{Server}
use Rattle.wait_locks.proofs.Turns.{lacks_all, moved}
use Rattle.wait_locks.specs.Kept.{waiter_of}
use Rattle.wait_locks.specs.Shown.{TurnAnswers, wait_event}
use Rattle.wait_locks.specs.declared.wait_server.WaitServer.{WaitServer}
use Rattle.wait_locks.proofs.wait_server.WaitServer.goes.Goals as goal

pub returns-in-Ok-clause-step : goal.returns-in-Ok-clause-step
returns-in-Ok-clause-step g c = λ w L records h none.
    let e = c.room.ensures.same in let es = ap (λ (z : WaitServer g.row.D.Denot). z.server) e.1 in
    let P : Server g.row.D.Denot → Type 0 = λ z. TurnAnswers g.D.Disk.told g.D.Disk.seen g.D.Disk.may_leave g.D.Disk.moment g.D.Disk.left_since g.D.Disk.faults z c.begin.new.self w L records c.args.now
    c.args.at_once c.args.event c.begin.result in
    subst P es
    (c.begin.ensures.step w L records (moved g.D.Disk.told g.D.Disk.seen g.D.Disk.may_leave c.args.self.now c.room.new.self w L records e.0 e.1 h)
    (ap stopped_of es ∙ none))

pub returns-in-Err-clause-step : goal.returns-in-Err-clause-step
returns-in-Err-clause-step g c = λ w L records h none.
    let e = c.room.ensures.same in let es = ap (λ (z : WaitServer g.row.D.Denot). z.server) e.1 in let r = c.lack.ensures.rest in
    lacks_all g.D.Disk.told g.D.Disk.seen g.D.Disk.may_leave g.D.Disk.moment g.D.Disk.left_since g.D.Disk.faults c.args.self.now.server w L records c.args.now c.args.at_once c.args.event g.met.D.Disk.only_now
    (λ t n. let x = (h.server.holds n).stands n t in (w.server, x.0, x.1)) c.args.self.now c.lack.new.self refl h none (ap (λ (z : WaitServer g.row.D.Denot). z.server) r ∙ es)
    (ap (λ (z : WaitServer g.row.D.Denot). z.ids_given) r ∙ ap (λ (z : WaitServer g.row.D.Denot). z.ids_given) e.1)
    (ap (λ (z : WaitServer g.row.D.Denot). z.starved) r)
    (c.lack.ensures.lists w L
    ∙ ap (λ z. staying_waiters (map waiter_of z) (wait_event (config_of c.room.new.self.server).users L w.server c.args.event)) e.0
    ∙ ap (λ z. staying_waiters (map waiter_of c.args.self.now.waiters.items) (wait_event (config_of z).users L w.server c.args.event)) es)
