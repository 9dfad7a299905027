use Rattle.std.proofs.Common.{ap, refl, ◌++◌, ◌∙◌}
use Rattle.server_checks.specs.declared.tables.Config.{Config}
use Rattle.wait_locks.proofs.Tries.{begins, fails, goes_on, lacks, rests}
use Rattle.wait_locks.proofs.wait_server.WaitServer.try_all.Goals as goal

pub rounds-init : goal.rounds-init
rounds-init g c = record {
  config = refl;
  alloc = refl;
  ids = refl;
  so = λ own s L records h none.
      begins g.D.Disk.told g.D.Disk.seen g.D.Disk.may_leave g.D.Disk.moment g.D.Disk.left_since g.D.Disk.faults c.args.now own c.args.self.now c.args.finals.now.items s L records none h;
}

pub rounds-preserved : goal.rounds-preserved
rounds-preserved g c = record {
  config = c.try_next.ensures.rest.config ∙ c.rounds.invariant.config;
  alloc = c.try_next.ensures.rest.alloc ∙ c.rounds.invariant.alloc;
  ids = c.try_next.ensures.rest.ids_given ∙ c.rounds.invariant.ids;
  so = λ own s L records h none.
      let t = c.rounds.invariant.so own s L records h none in
      goes_on g.D.Disk.told g.D.Disk.seen g.D.Disk.may_leave g.D.Disk.moment g.D.Disk.left_since g.D.Disk.faults c.args.now own c.args.self.now c.args.finals.now.items s L records _ _ _ _ t
      (ap (λ (z : Config). z.users) c.rounds.invariant.config)
      (c.in-Went.ensures.step own t.state L (records ++ t.written) t.holds t.going);
}

pub returns-in-AllHeld-clause-step : goal.returns-in-AllHeld-clause-step
returns-in-AllHeld-clause-step g c = λ own s L records h none.
    let t = c.rounds.invariant.so own s L records h none in
    rests g.D.Disk.told g.D.Disk.seen g.D.Disk.may_leave g.D.Disk.moment g.D.Disk.left_since g.D.Disk.faults c.args.now own c.args.self.now c.args.finals.now.items s L records _ _ _ _ t
    (ap (λ (z : Config). z.users) c.rounds.invariant.config) (tt {0}) (c.in-AllHeld.ensures.step own t.state L (records ++ t.written) t.holds t.going)

pub returns-in-Lacks-clause-step : goal.returns-in-Lacks-clause-step
returns-in-Lacks-clause-step g c = λ own s L records h none.
    let t = c.rounds.invariant.so own s L records h none in
    lacks g.D.Disk.told g.D.Disk.seen g.D.Disk.may_leave g.D.Disk.moment g.D.Disk.left_since g.D.Disk.faults c.args.now own c.args.self.now c.args.finals.now.items s L records _ _ _ _ t
    (ap (λ (z : Config). z.users) c.rounds.invariant.config) (tt {0}) (c.in-Lacks.ensures.step own t.state L (records ++ t.written) t.holds t.going)

pub returns-in-Fails-clause-step : goal.returns-in-Fails-clause-step
returns-in-Fails-clause-step g c = λ own s L records h none.
    let t = c.rounds.invariant.so own s L records h none in
    fails g.D.Disk.told g.D.Disk.seen g.D.Disk.may_leave g.D.Disk.moment g.D.Disk.left_since g.D.Disk.faults c.args.now own c.args.self.now c.args.finals.now.items s L records _ _ _ _ t
    (ap (λ (z : Config). z.users) c.rounds.invariant.config) (Unit {0}) _
    (c.in-Fails.ensures.step own t.state L (records ++ t.written) t.holds t.going)
