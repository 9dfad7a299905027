use Rattle.examples_world.proofs.runs.Frames.{cancel_is}
use Rattle.examples_world.proofs.runs.cancel_example.Goals as goal

pub returns : goal.returns
returns c = record { frames = cancel_is.0; ends = cancel_is.1; held = cancel_is.2 }
