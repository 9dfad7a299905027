use Rattle.std.proofs.Common.{ap, ◌∙◌}
use Rattle.server_checks.specs.event_heard.Heard.{event_of}
use Rattle.server_plan.proofs.Early.{not_ok}
use Rattle.server_plan.proofs.Planned.{bare, owing_of}
use Rattle.server_plan.proofs.plan.plan_by.Goals as goal
use Rattle.server_plan.specs.Plans.{may_owe_by}

pub returns-in-Ok-clause-plan : goal.returns-in-Ok-clause-plan
returns-in-Ok-clause-plan c = λ s f h e. c.fitting.ensures.plan s c.args.now f h e
    (c.in-Ok.ensures.told s f h (owing_of c.owing_law.ensures.checked s (event_of c.args.asked.now) _ f e))

pub returns-in-Ok-clause-fits : goal.returns-in-Ok-clause-fits
returns-in-Ok-clause-fits c = c.fitting.ensures.fits

pub returns-in-Ok-clause-sure : goal.returns-in-Ok-clause-sure
returns-in-Ok-clause-sure c = λ s f h e n. bare s c.args.now (event_of c.args.asked.now) _
    (c.fitting.ensures.plan s c.args.now f h e
    (c.in-Ok.ensures.told s f h (owing_of c.owing_law.ensures.checked s (event_of c.args.asked.now) _ f e))) n

pub returns-in-Err-clause-sure : goal.returns-in-Err-clause-sure
returns-in-Err-clause-sure c = λ s f h e n. not_ok (c.in-Err.ensures.sure s f h
    (owing_of c.owing_law.ensures.checked s (event_of c.args.asked.now) _ f e) (ap may_owe_by e ∙ n))
