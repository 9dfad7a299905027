use Rattle.law_ties.proofs.requests.Pushed.{pushes}
use Rattle.law_ties.proofs.requests.pushes_law.Goals as goal

pub returns : goal.returns
returns c = record { kept = pushes }
