use Rattle.std.proofs.Common.{ℕ, nat_lt, ap}
use Rattle.server_core.proofs.durable_state.durable.Durable.has_guid_room.Goals as goal

pub returns : goal.returns
returns c = λ s h. ap (λ (n : ℕ). nat_lt n 65536) (c.expired_count.ensures s h.opens)
