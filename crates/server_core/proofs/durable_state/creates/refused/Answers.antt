use Rattle.std.proofs.Common.{refl}
use Rattle.server_core.proofs.durable_state.creates.refused.Goals as goal

pub returns-in-Status : goal.returns-in-Status
returns-in-Status c = (refl, λ e. let k = c.in-Status.is in cc)
