use Rattle.std.proofs.Common.{ℕ, ◌==◌, ◌/◌, sym, ap, ◌∙◌}
use Rattle.server_core.proofs.durable_state.durable.Durable.is_of_epoch.Goals as goal

pub returns : goal.returns
returns c = λ s h. ap (λ (e : ℕ). c.args.id / 0x1_0000_0000 == e) (c.from.ensures ∙ sym h.epoch_is)
