use Rattle.std.proofs.Common.{refl, sym, ◌∙◌}
use Rattle.wait_locks.proofs.Turns.{stops}
use Rattle.wait_locks.proofs.wait_server.WaitServer.turn.Goals as goal

pub returns-in-Some-clause-step : goal.returns-in-Some-clause-step
returns-in-Some-clause-step g c = λ w L records h.
    stops g.D.Disk.told g.D.Disk.seen g.D.Disk.may_leave g.D.Disk.moment g.D.Disk.left_since g.D.Disk.faults c.args.self.now.server w L records c.args.now c.args.at_once c.args.event g.met.D.Disk.only_now
    (λ t n. let x = (h.server.holds n).stands n t in (w.server, x.0, x.1)) c.in-Some.count
    c.args.self.now refl h (sym c.stopped.ensures ∙ c.in-Some.is)

pub returns-in-None-clause-step : goal.returns-in-None-clause-step
returns-in-None-clause-step g c = λ w L records h. c.goes.ensures.step w L records h (sym c.stopped.ensures ∙ c.in-None.is)
