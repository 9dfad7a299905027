use Rattle.law_waiting.proofs.out_steps.Ordering.{in_order}
use Rattle.law_waiting.proofs.out_steps.order_law.Goals as goal

pub returns : goal.returns
returns g c = λ z c ts id. in_order z c ts id
