use Rattle.examples_world.proofs.runs.Opened.{signers_are}
use Rattle.examples_world.proofs.runs.failed_signers_example.Goals as goal

pub returns : goal.returns
returns c = record { faulty = signers_are.0; rightful = signers_are.1 }
