use Rattle.std.proofs.Common.{refl, sym, ◌∙◌}
use Rattle.server_checks.specs.event_heard.Heard.{heard_event}
use Rattle.server_effects.specs.declared.answering.Answer.{Answer}
use Rattle.server_core.proofs.event_step.Refused.{none_leaves, none_some, stopped_as}
use Rattle.server_core.proofs.event_step.event.answer_event.Goals as goal

pub returns-in-Some-clause-step : goal.returns-in-Some-clause-step
returns-in-Some-clause-step g c = λ base s L records h. (c.in-Some.is, refl)

pub returns-in-Some-clause-any_moment : goal.returns-in-Some-clause-any_moment
returns-in-Some-clause-any_moment g c = λ told base s L records bodies h n.
    none_leaves g.D.Disk.seen g.D.Disk.may_leave base g.D.Disk.moment g.D.Disk.left_since g.met.D.Disk.only_now c.args.server.now.journal
    c.args.server.now.journal s records c.args.now (heard_event c.args.server.now.tables.config.users L s c.args.event) bodies refl n.1

pub returns-in-Some-clause-stopped : goal.returns-in-Some-clause-stopped
returns-in-Some-clause-stopped g c = λ k e. (stopped_as Answer c.in-Some.count k (sym c.in-Some.is ∙ e), refl)

pub returns-in-None-clause-step : goal.returns-in-None-clause-step
returns-in-None-clause-step g c = λ base s L records h. c.answer_heard.ensures.step base s L records h c.in-None.is

pub returns-in-None-clause-any_moment : goal.returns-in-None-clause-any_moment
returns-in-None-clause-any_moment g c = λ told base s L records bodies h n. c.answer_heard.ensures.any_moment told base s L records bodies
    h n

pub returns-in-None-clause-stopped : goal.returns-in-None-clause-stopped
returns-in-None-clause-stopped g c = λ k e. absurd (none_some k c.args.server.now.stopped c.in-None.is e)

pub returns-in-Some-clause-config : goal.returns-in-Some-clause-config
returns-in-Some-clause-config g c = refl

pub returns-in-None-clause-config : goal.returns-in-None-clause-config
returns-in-None-clause-config g c = c.answer_heard.ensures.config

pub returns-in-Some-clause-early : goal.returns-in-Some-clause-early
returns-in-Some-clause-early g c = λ base s L records h n d e. tt

pub returns-in-None-clause-early : goal.returns-in-None-clause-early
returns-in-None-clause-early g c = λ base s L records h n d e. c.answer_heard.ensures.early base s L records h n d e
