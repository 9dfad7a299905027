use Rattle.std.proofs.Common.{◌≡◌, true, inl, refl, subst, sym, ◌∙◌}
use Rattle.spec_exchange.specs.State as model
use Rattle.server_checks.specs.event_heard.Heard.{heard_event}
use Rattle.server_core.proofs.event_step.Early.{heard_same, not_on}
use Rattle.server_core.specs.event_step.Early.{is_refused_early}
use Rattle.server_checks.specs.setups.Setups.{in_the_making}
use Rattle.server_core.proofs.event_step.Refused.{none_leaves}
use Rattle.server_core.proofs.event_step.Said.{asks_by}
use Rattle.server_core.proofs.event_step.event.answer_heard.Goals as goal

pub returns-in-Ok-clause-step : goal.returns-in-Ok-clause-step
returns-in-Ok-clause-step g c = λ base s L records h none.
    c.answer_asked.ensures.step base c.args.server.now.tables.config.users s L records c.args.event
    (asks_by g.D.Disk.told g.D.Disk.seen g.D.Disk.may_leave base c.args.server.now s L records c.args.now c.args.event c.in-Ok.asked h none
    (c.unmade_law.ensures c.args.server.now.tables.config.users s L c.args.now) c.in-Ok.ensures.agrees
    (c.in-Ok.ensures.event s L h.shown.tables.sessions h.shown.logons))

pub returns-in-Ok-clause-any_moment : goal.returns-in-Ok-clause-any_moment
returns-in-Ok-clause-any_moment g c = λ told base s L records bodies h n.
    c.answer_asked.ensures.any_moment told base c.args.server.now.tables.config.users s L records bodies c.args.event
    (asks_by g.D.Disk.told g.D.Disk.seen g.D.Disk.may_leave base c.args.server.now s L records c.args.now c.args.event c.in-Ok.asked h n.0
    (c.unmade_law.ensures c.args.server.now.tables.config.users s L c.args.now) c.in-Ok.ensures.agrees
    (c.in-Ok.ensures.event s L h.shown.tables.sessions h.shown.logons)) n

pub returns-in-Err-clause-step : goal.returns-in-Err-clause-step
returns-in-Err-clause-step g c = λ base s L records h none. (none, inl h)

pub returns-in-Err-clause-any_moment : goal.returns-in-Err-clause-any_moment
returns-in-Err-clause-any_moment g c = λ told base s L records bodies h n.
    none_leaves g.D.Disk.seen g.D.Disk.may_leave base g.D.Disk.moment g.D.Disk.left_since g.met.D.Disk.only_now c.args.server.now.journal
    c.args.server.now.journal s records c.args.now (heard_event c.args.server.now.tables.config.users L s c.args.event) bodies refl n.1

pub returns-in-Ok-clause-config : goal.returns-in-Ok-clause-config
returns-in-Ok-clause-config g c = c.answer_asked.ensures.config

pub returns-in-Err-clause-config : goal.returns-in-Err-clause-config
returns-in-Err-clause-config g c = refl

pub returns-in-Ok-clause-early : goal.returns-in-Ok-clause-early
returns-in-Ok-clause-early g c = λ base s L records h n d e.
    let users = c.args.server.now.tables.config.users in
    let k = c.in-Ok.ensures.event s L h.shown.tables.sessions h.shown.logons in
    c.answer_asked.ensures.early s h.fits h.shown.tables d (subst (λ (v : model.ServerEvent). is_refused_early s v ≡ true)
    (sym (k.0 ∙ heard_same users (in_the_making s L) L s c.args.event n)) e)

pub returns-in-Err-clause-early : goal.returns-in-Err-clause-early
returns-in-Err-clause-early g c = λ base s L records h n d e. not_on (c.in-Err.ensures.sure n)
