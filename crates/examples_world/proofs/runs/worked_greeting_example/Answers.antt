use Rattle.examples_world.proofs.runs.Greetings.{greeting_asked, greeting_told}
use Rattle.examples_world.proofs.runs.worked_greeting_example.Goals as goal

pub returns : goal.returns
returns c = record { asked = greeting_asked; told = greeting_told }
