use Rattle.law_server.proofs.successes.Told.{bodies_are_told}
use Rattle.law_server.proofs.successes.bodies_are_told_law.Goals as goal

pub returns : goal.returns
returns c = record { told = bodies_are_told }
