use Rattle.std.proofs.Common.{refl}
use Rattle.world_steps.proofs.opening.entering.opened.Goals as goal

pub returns-in-Ok : goal.returns-in-Ok
returns-in-Ok c = record { client = refl; server = c.first_server.ensures; up = c.in-Ok.ensures; down = c.new.ensures.items }
