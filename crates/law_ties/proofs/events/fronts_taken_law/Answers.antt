use Rattle.law_ties.proofs.events.Taking.{fronts_taken}
use Rattle.law_ties.proofs.events.fronts_taken_law.Goals as goal

pub returns : goal.returns
returns c = record { taken = fronts_taken }
