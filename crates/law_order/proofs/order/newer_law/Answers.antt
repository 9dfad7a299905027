use Rattle.law_order.proofs.order.Lower.{newer_always}
use Rattle.law_order.proofs.order.newer_law.Goals as goal

pub returns : goal.returns
returns c = record { newer = newer_always }
