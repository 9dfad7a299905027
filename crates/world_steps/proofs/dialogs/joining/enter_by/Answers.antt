use Rattle.std.proofs.Common.{refl}
use Rattle.world_steps.proofs.dialogs.joining.enter_by.Goals as goal

pub returns-in-Ok : goal.returns-in-Ok
returns-in-Ok c = record { says = c.in-Ok.ensures; others = refl }
