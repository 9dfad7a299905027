use Rattle.std.proofs.Common.{ap, refl, sym, ◌++◌, ◌∙◌}
use Rattle.server_checks.specs.declared.tables.Config.{Config}
use Rattle.wait_locks.proofs.Turns.{goes_ill, goes_well, refused}
use Rattle.wait_locks.proofs.wait_server.WaitServer.begin.Goals as goal

pub returns-in-Ok-try_all-clause-step : goal.returns-in-Ok-try_all-clause-step
returns-in-Ok-try_all-clause-step g c = λ w L records h none.
    let b = c.in-Ok.ensures.step w L records h none in
    goes_well g.D.Disk.told g.D.Disk.seen g.D.Disk.may_leave g.D.Disk.moment g.D.Disk.left_since g.D.Disk.faults c.args.self.now.server w L records c.args.now c.args.at_once c.args.event g.met.D.Disk.only_now
    (λ t n. let x = (h.server.holds n).stands n t in (w.server, x.0, x.1)) c.carry.new.self
    c.carry.new.finals.items (sym h.stopped ∙ none) c.in-Ok.own b c.try_all.new.self c.try_all.new.finals.items
    (ap (λ (z : Config). z.users) c.carry.ensures.config) c.try_all.ensures.rest.1 (tt {0}) _ refl refl
    (c.in-Ok-try_all.ensures.step _ b.came.waiting.server b.logons (records ++ b.written) (b.holds.server.holds (b.holds.stopped ∙ b.shows.1))
    (b.holds.stopped ∙ b.shows.1))

pub returns-in-Err-try_all-clause-step : goal.returns-in-Err-try_all-clause-step
returns-in-Err-try_all-clause-step g c = λ w L records h none.
    let b = c.in-Ok.ensures.step w L records h none in
    goes_ill g.D.Disk.told g.D.Disk.seen g.D.Disk.may_leave g.D.Disk.moment g.D.Disk.left_since g.D.Disk.faults c.args.self.now.server w L records c.args.now c.args.at_once c.args.event g.met.D.Disk.only_now
    (λ t n. let x = (h.server.holds n).stands n t in (w.server, x.0, x.1)) c.carry.new.self
    c.carry.new.finals.items (sym h.stopped ∙ none) c.in-Ok.own b c.try_all.new.self c.try_all.new.finals.items
    (ap (λ (z : Config). z.users) c.carry.ensures.config) c.try_all.ensures.rest.1 c.in-Err-try_all.error
    (c.in-Err-try_all.ensures.step _ b.came.waiting.server b.logons (records ++ b.written) (b.holds.server.holds (b.holds.stopped ∙ b.shows.1))
    (b.holds.stopped ∙ b.shows.1))

pub returns-in-Err-clause-step : goal.returns-in-Err-clause-step
returns-in-Err-clause-step g c = λ w L records h none.
    refused g.D.Disk.told g.D.Disk.seen g.D.Disk.may_leave g.D.Disk.moment g.D.Disk.left_since g.D.Disk.faults c.args.self.now.server w L records c.args.now c.args.at_once c.args.event g.met.D.Disk.only_now
    (λ t n. let x = (h.server.holds n).stands n t in (w.server, x.0, x.1)) c.carry.new.self
    c.carry.new.finals.items (sym h.stopped ∙ none) c.in-Err.error (c.in-Err.ensures.step w L records h none)
