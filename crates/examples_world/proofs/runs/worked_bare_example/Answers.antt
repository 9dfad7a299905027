use Rattle.examples_world.proofs.runs.Alone.{begins, wrapped, challenged, again, other, last}
use Rattle.examples_world.proofs.runs.worked_bare_example.Goals as goal

pub returns : goal.returns
returns c = record { begins = begins; wrapped = wrapped; challenge = challenged; again = again; other = other; last = last }
