use Rattle.std.proofs.Common.{refl}
use Rattle.server_core.proofs.durable_state.Shown.{begins, nothing_shown}
use Rattle.server_core.proofs.durable_state.durable.Durable.new.Goals as goal

pub returns : goal.returns
returns c = nothing_shown _ (c.new.ensures.shown _ begins refl) c.new-2.ensures refl refl
