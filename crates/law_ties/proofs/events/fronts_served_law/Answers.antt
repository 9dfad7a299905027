use Rattle.law_ties.proofs.events.Serving.{fronts_served}
use Rattle.law_ties.proofs.events.fronts_served_law.Goals as goal

pub returns : goal.returns
returns c = record { served = fronts_served }
