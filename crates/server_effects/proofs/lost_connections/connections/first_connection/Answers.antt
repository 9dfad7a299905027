use Rattle.std.proofs.Common.{ℕ, List, slice_get, ap, ◌∙◌}
use Rattle.server_effects.proofs.lost_connections.connections.first_connection.Goals as goal

pub returns : goal.returns
returns c = λ s h. c.first_of.ensures ∙ ap (λ (ks : List ℕ). slice_get ks 0) (c.connections.ensures s h.sessions)
