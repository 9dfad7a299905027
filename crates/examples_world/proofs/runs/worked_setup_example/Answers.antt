use Rattle.examples_world.proofs.runs.Greetings.{first_setup_asked, interim_told, second_setup_asked, last_is_told}
use Rattle.examples_world.proofs.runs.worked_setup_example.Goals as goal

pub returns : goal.returns
returns c = record { first = first_setup_asked; interim = interim_told; second = second_setup_asked; last = last_is_told }
