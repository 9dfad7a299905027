use Rattle.server_checks.specs.event_heard.Heard.{event_of}
use Rattle.server_plan.proofs.Early.{early_by, early_owes, not_ok}
use Rattle.server_plan.proofs.plan.plan_event.Goals as goal

pub returns-in-Ok-clause-plan : goal.returns-in-Ok-clause-plan
returns-in-Ok-clause-plan c = λ s f h. c.plan_by.ensures.plan s f h (c.in-Ok.ensures.ruled s f h)

pub returns-in-Ok-clause-early : goal.returns-in-Ok-clause-early
returns-in-Ok-clause-early c = λ s f h e. c.plan_by.ensures.sure s f h (c.in-Ok.ensures.ruled s f h)
    (early_owes s (event_of c.args.asked.now) e)

pub returns-in-Err-clause-early : goal.returns-in-Err-clause-early
returns-in-Err-clause-early c = λ s f h e. not_ok (early_by s c.args.asked.now c.in-Err.ensures.sure
    (λ m. c.in-Err.ensures.absent s m h) c.in-Err.ensures.faulty e)
