use Rattle.std.proofs.Common.{refl}
use Rattle.spec_exchange.specs.Step as steps
use Rattle.server_plan.proofs.Planned.{lesser_owing, owing_of, planned}
use Rattle.server_plan.proofs.laws.plan_law.Goals as goal
use Rattle.server_plan.specs.Plans.{OwingOf}
use Rattle.server_plan.specs.rulings.Rulings.{AbleToRule}

pub returns : goal.returns
returns c = record {
  ruled = λ s e f. owing_of c.owing_law.ensures.checked s e (steps.ruling s e) f refl;
  lesser = λ s e f. lesser_owing c.owing_law.ensures.without_room s e f;
  owing = λ p s now e f i. planned (λ (r : steps.Ruling). OwingOf s r) s now e p i
      (owing_of c.owing_law.ensures.checked s e (steps.ruling s e) f refl) (lesser_owing c.owing_law.ensures.without_room s e f);
  able = λ p s now e f i. planned (λ (r : steps.Ruling). AbleToRule s r) s now e p i (c.ruling_law.ensures.able s e f)
      (c.ruling_law.ensures.lesser s e f);
}
