use Rattle.examples_world.proofs.runs.Owed.{unsigned_refusals}
use Rattle.examples_world.proofs.runs.unsigned_refusal_example.Goals as goal

pub returns : goal.returns
returns c = record { unsigned = unsigned_refusals.0; unsealed = unsigned_refusals.1 }
