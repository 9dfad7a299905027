use Rattle.std.proofs.Common.{List, ℕ, length, ap}
use Rattle.world_steps.proofs.taking.noting.settled_in.Goals as goal

pub returns : goal.returns
returns c = λ d shown. ap (λ (v : List ℕ). length v) (c.order.ensures d shown)
