use Rattle.examples_world.proofs.runs.Mishaps.{stopped}
use Rattle.examples_world.proofs.runs.stopped_example.Goals as goal

pub returns : goal.returns
returns c = record { ends = stopped.0; frames = stopped.1; matches = stopped.2 }
