use Rattle.examples_world.proofs.runs.Bound.{bound}
use Rattle.examples_world.proofs.runs.binding_example.Goals as goal

pub returns : goal.returns
returns c = record { signer = bound.0; keys = bound.1; channel = bound.2 }
