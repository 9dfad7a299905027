use Rattle.std.proofs.Common.{ℕ, ◌==◌, ap}
use Rattle.server_core.proofs.durable_state.durable.Durable.is_next_file.Goals as goal

pub returns : goal.returns
returns c = λ s h. ap (λ (n : ℕ). c.args.file == n) (c.next_file.ensures.shown s h.files)
