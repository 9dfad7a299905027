use Rattle.std.proofs.Common.{◌++◌, subst, sym}
use Rattle.spec_exchange.specs.Step as steps
use Rattle.spec_exchange.specs.Step.{carried_out}
use Rattle.server_checks.specs.event_heard.Heard.{event_of}
use Rattle.server_core.proofs.behind_expiry.behind.with_body.Goals as goal
use Rattle.journal_bytes.specs.record_bodies.Body.{IsBodyOf}
use Rattle.server_plan.specs.Plans.{OwingOf}

pub returns-in-Ok : goal.returns-in-Ok
returns-in-Ok c = λ s records f h e b.
    let owing = subst (λ (r : steps.Ruling). OwingOf s r) (sym e) (c.plan_law.ensures.ruled s (event_of c.args.asked.now) f) in (
      e,
      subst (λ (r : steps.Ruling). IsBodyOf c.in-Ok.body (records ++ (carried_out s c.args.now r).records)) e
          (c.in-Ok.ensures s records f h owing b),
    )
