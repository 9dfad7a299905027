use Rattle.examples_world.proofs.repeats.Twice.{given_twice_computed}
use Rattle.examples_world.proofs.repeats.given_twice_example.Goals as goal

pub returns : goal.returns
returns c = record { answered = given_twice_computed.0; first = given_twice_computed.1; second = given_twice_computed.2; idle = given_twice_computed.3 }
