use Rattle.std.proofs.Common.{refl}
use Rattle.world_steps.proofs.dialogs.going.talks_on.Goals as goal

pub returns-in-Ok : goal.returns-in-Ok
returns-in-Ok c = record { client = refl; server = refl; up = c.in-Ok.ensures; down = refl }
