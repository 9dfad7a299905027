use Rattle.std.proofs.Common.{refl}
use Rattle.world_steps.proofs.taking.noting.noted.Goals as goal

pub returns-in-Ok : goal.returns-in-Ok
returns-in-Ok c = (refl, c.in-Ok.ensures)
