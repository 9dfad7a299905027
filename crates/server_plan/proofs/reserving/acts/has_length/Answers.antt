use Rattle.std.proofs.Common.{ℕ, ◌==◌, ap}
use Rattle.server_plan.proofs.reserving.acts.has_length.Goals as goal

pub returns : goal.returns
returns c = λ s h x. ap (λ (n : ℕ). c.args.size == n) (c.length.ensures s h x)
