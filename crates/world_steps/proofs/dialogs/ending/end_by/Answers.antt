use Rattle.std.proofs.Common.{refl}
use Rattle.world_steps.proofs.dialogs.ending.end_by.Goals as goal

pub returns-in-Ok : goal.returns-in-Ok
returns-in-Ok c = record { ends = c.in-Ok.ensures; making_is = c.made_without-world.ensures; others = refl }
