use Rattle.law_ties.proofs.events.Keeping.{ties_kept}
use Rattle.law_ties.proofs.events.ties_law.Goals as goal

pub returns : goal.returns
returns c = record { kept = ties_kept }
