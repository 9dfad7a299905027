use Rattle.examples_world.proofs.runs.Mishaps.{no_mishap}
use Rattle.examples_world.proofs.runs.no_mishap_example.Goals as goal

pub returns : goal.returns
returns c = record { frames = no_mishap.0; matches = no_mishap.1; lacked = no_mishap.2 }
