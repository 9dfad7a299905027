use Rattle.std.proofs.Common.{ℕ, nat_lt, ap}
use Rattle.server_core.proofs.durable_state.durable.Durable.has_open_room.Goals as goal

pub returns : goal.returns
returns c = λ s h. ap (λ (n : ℕ). nat_lt n 16384) (c.count.ensures s h.opens)
