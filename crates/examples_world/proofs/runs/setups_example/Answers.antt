use Rattle.examples_world.proofs.runs.Mishaps.{setups}
use Rattle.examples_world.proofs.runs.setups_example.Goals as goal

pub returns : goal.returns
returns c = record { last = setups.0; past = setups.1; status = setups.2; count = setups.3 }
