use Rattle.examples_world.proofs.runs.Frames.{id_taken_twice}
use Rattle.examples_world.proofs.runs.id_taken_twice_example.Goals as goal

pub returns : goal.returns
returns c = id_taken_twice
