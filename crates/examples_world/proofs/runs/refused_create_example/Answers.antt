use Rattle.examples_world.proofs.runs.Opened.{refused_are}
use Rattle.examples_world.proofs.runs.refused_create_example.Goals as goal

pub returns : goal.returns
returns c = record { related = refused_are.0; apart = refused_are.1 }
