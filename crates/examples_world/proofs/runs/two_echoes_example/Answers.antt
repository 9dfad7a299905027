use Rattle.examples_world.proofs.runs.Frames.{two_echoes_are}
use Rattle.examples_world.proofs.runs.two_echoes_example.Goals as goal

pub returns : goal.returns
returns c = record { frames = two_echoes_are.0; status = two_echoes_are.1; left = two_echoes_are.2 }
