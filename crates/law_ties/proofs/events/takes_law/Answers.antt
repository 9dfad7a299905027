use Rattle.law_ties.proofs.events.Took.{takes_kept}
use Rattle.law_ties.proofs.events.takes_law.Goals as goal

pub returns : goal.returns
returns c = record { kept = takes_kept }
