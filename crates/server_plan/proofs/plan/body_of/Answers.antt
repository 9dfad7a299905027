use Rattle.std.proofs.Common.{◌∙◌}
use Rattle.server_checks.specs.event_heard.Heard.{event_of}
use Rattle.server_plan.proofs.Lesser.{none_owed}
use Rattle.server_plan.proofs.Planned.{if_ok_by, none_of}
use Rattle.server_plan.proofs.plan.body_of.Goals as goal
use Rattle.server_plan.specs.rulings.Rulings.{ruling_of}

pub returns-in-Ok-clause-told : goal.returns-in-Ok-clause-told
returns-in-Ok-clause-told c = λ s f h w. if_ok_by c.spelled.result c.spelled.ensures.told
    (λ b i. (c.in-Ok.records, c.in-Ok.ensures.told s f h w, i))

pub returns-in-Ok-clause-sure : goal.returns-in-Ok-clause-sure
returns-in-Ok-clause-sure c = λ s f h w n. c.spelled.ensures.sure (none_of c.in-Ok.records (c.in-Ok.ensures.told s f h w
    ∙ none_owed s c.args.now (ruling_of (event_of c.args.asked.now) c.args.ruling.now) n))

pub returns-in-Err-clause-sure : goal.returns-in-Err-clause-sure
returns-in-Err-clause-sure c = λ s f h w n. c.in-Err.ensures.sure n
