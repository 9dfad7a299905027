use Rattle.examples_world.proofs.repeats.Misread.{misread_computed}
use Rattle.examples_world.proofs.repeats.misread_example.Goals as goal

pub returns : goal.returns
returns c = record { cut = misread_computed.0; waits = misread_computed.1 }
