use Rattle.std.proofs.Common.{refl}
use Rattle.world_steps.proofs.dialogs.fronting.with_frame.Goals as goal

pub returns-in-Ok : goal.returns-in-Ok
returns-in-Ok c = (c.in-Ok.ensures, refl, refl, refl, refl)
