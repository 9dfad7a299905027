use Rattle.std.proofs.Common.{ℕ, List, ap, ◌∙◌}
use Rattle.std.specs.Int.{from_le_bytes, w64}
use Rattle.client_channels.proofs.channel_threads.running.salt_for.Goals as goal

pub returns : goal.returns
returns c = c.from_le_bytes.ensures ∙ ap (λ (l : List ℕ). from_le_bytes w64 l) c.draw_8.ensures
