use Rattle.std.proofs.Common.{List, ℕ, inl, refl, subst, sym}
use Rattle.server_checks.specs.event_heard.Heard.{heard_event}
use Rattle.server_core.proofs.event_step.Refused.{none_leaves}
use Rattle.server_core.proofs.event_step.expiring.event_behind_expiry.Goals as goal
use Rattle.server_core.specs.event_step.Behind.{IsExpiryFront}

pub returns-in-Ok-clause-step : goal.returns-in-Ok-clause-step
returns-in-Ok-clause-step g c = λ base users s L records e a m. c.behind_front.ensures.step base users s L records e a m
    (subst (λ (b : List ℕ). IsExpiryFront s c.args.asked.now c.args.id b) (sym c.as_slice.ensures)
    (c.in-Ok.ensures s a.holds.fits a.holds.shown.tables (c.keeps_law.ensures.due s c.args.now c.args.id a.holds.fits m.is_due).0))

pub returns-in-Ok-clause-any_moment : goal.returns-in-Ok-clause-any_moment
returns-in-Ok-clause-any_moment g c = λ told base users s L records bodies e a m n.
    c.behind_front.ensures.any_moment told base users s L records bodies e a m
    (subst (λ (b : List ℕ). IsExpiryFront s c.args.asked.now c.args.id b) (sym c.as_slice.ensures)
    (c.in-Ok.ensures s a.holds.fits a.holds.shown.tables (c.keeps_law.ensures.due s c.args.now c.args.id a.holds.fits m.is_due).0)) n

pub returns-in-Err-clause-step : goal.returns-in-Err-clause-step
returns-in-Err-clause-step g c = λ base users s L records e a m. (a.goes_on, inl a.holds)

pub returns-in-Err-clause-any_moment : goal.returns-in-Err-clause-any_moment
returns-in-Err-clause-any_moment g c = λ told base users s L records bodies e a m n.
    none_leaves g.D.Disk.seen g.D.Disk.may_leave base g.D.Disk.moment g.D.Disk.left_since g.met.D.Disk.only_now c.args.server.now.journal
    c.args.server.now.journal s records c.args.now (heard_event users L s e) bodies refl n.1

pub returns-in-Ok-clause-none : goal.returns-in-Ok-clause-none
returns-in-Ok-clause-none g c = c.behind_front.ensures.none

pub returns-in-Ok-clause-config : goal.returns-in-Ok-clause-config
returns-in-Ok-clause-config g c = c.behind_front.ensures.config

pub returns-in-Err-clause-none : goal.returns-in-Err-clause-none
returns-in-Err-clause-none g c = tt

pub returns-in-Err-clause-config : goal.returns-in-Err-clause-config
returns-in-Err-clause-config g c = refl
