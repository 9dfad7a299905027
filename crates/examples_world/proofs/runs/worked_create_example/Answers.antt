use Rattle.examples_world.proofs.runs.Requests.{create_asked_is, create_told_is}
use Rattle.examples_world.proofs.runs.worked_create_example.Goals as goal

pub returns : goal.returns
returns c = record { asked = create_asked_is; told = create_told_is }
