use Rattle.examples_world.proofs.runs.Opened.{closed_are}
use Rattle.examples_world.proofs.runs.made_and_closed_example.Goals as goal

pub returns : goal.returns
returns c = record { statuses = closed_are.0; opens = closed_are.1 }
