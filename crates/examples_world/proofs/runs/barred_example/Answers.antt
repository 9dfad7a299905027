use Rattle.examples_world.proofs.runs.Frames.{barred_are}
use Rattle.examples_world.proofs.runs.barred_example.Goals as goal

pub returns : goal.returns
returns c = record { setup = barred_are.0; unsigned = barred_are.1; cancel = barred_are.2; probe = barred_are.3 }
