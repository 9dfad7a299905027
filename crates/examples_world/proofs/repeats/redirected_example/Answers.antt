use Rattle.examples_world.proofs.repeats.Redirected.{redirected_computed}
use Rattle.examples_world.proofs.repeats.redirected_example.Goals as goal

pub returns : goal.returns
returns c = record { denied = redirected_computed.0; unsigned = redirected_computed.1; apart = redirected_computed.2; own = redirected_computed.3; signed = redirected_computed.4 }
