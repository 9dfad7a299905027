use Rattle.std.proofs.Common.{inl, refl}
use Rattle.server_checks.specs.event_heard.Heard.{event_of, heard_event}
use Rattle.server_core.proofs.event_step.Early.{early_of, refusal_wants}
use Rattle.server_core.proofs.event_step.Moments.{nothing_left}
use Rattle.server_core.proofs.event_step.alone.event_alone.Goals as goal

pub returns-in-Ok : goal.returns-in-Ok
returns-in-Ok g c = record {
  step = λ base users s L records e a is.
      c.carry_plan.ensures.step base users s L records e a (c.in-Ok.ensures.plan s a.holds.fits a.holds.shown.tables) is;
  any_moment = λ told base users s L records bodies e a is goes.
      c.carry_plan.ensures.any_moment told base users s L records bodies e a
      (c.in-Ok.ensures.plan s a.holds.fits a.holds.shown.tables) is goes;
  config = c.carry_plan.ensures.config;
  early = λ s f h e.
      let x = event_of c.args.asked.now in
      let k = c.in-Ok.ensures.early s f h (early_of s x e) in
      c.carry_plan.ensures.early s k.0 k.1 (refusal_wants s x e);
}

pub returns-in-Err : goal.returns-in-Err
returns-in-Err g c = record {
  step = λ base users s L records e a is. (a.goes_on, inl a.holds);
  any_moment = λ told base users s L records bodies e a is goes.
      nothing_left g.D.Disk.seen g.D.Disk.may_leave g.D.Disk.moment g.D.Disk.left_since g.met.D.Disk.only_now s c.args.now
      (heard_event users L s e) c.args.server.now.journal c.args.server.now.journal.disk bodies refl goes.1.settled;
  config = refl;
  early = λ s f h e. c.in-Err.ensures.early s f h (early_of s (event_of c.args.asked.now) e);
}

pub carry_plan-requires : goal.carry_plan-requires
carry_plan-requires g c = c.in-Ok.ensures.fits
