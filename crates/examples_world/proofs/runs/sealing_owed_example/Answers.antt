use Rattle.examples_world.proofs.runs.Owed.{sealing_owed}
use Rattle.examples_world.proofs.runs.sealing_owed_example.Goals as goal

pub returns : goal.returns
returns c = record { owed = sealing_owed.0; not_owed = sealing_owed.1 }
