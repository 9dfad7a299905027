use Rattle.examples_world.proofs.runs.Mishaps.{given}
use Rattle.examples_world.proofs.runs.given_example.Goals as goal

pub returns : goal.returns
returns c = record { too_few = given.0; too_many = given.1; behind_a_stop = given.2 }
