use Rattle.std.proofs.Common.{ap}
use Rattle.spec_world.specs.Notes.{making_error}
use Rattle.world_steps.proofs.opening.refusing.unless_making.Goals as goal

pub returns-in-Some : goal.returns-in-Some
returns-in-Some c = ap making_error c.in-Some.is

pub returns-in-None : goal.returns-in-None
returns-in-None c = ap making_error c.in-None.is
