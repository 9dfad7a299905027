use Rattle.law_ties.proofs.frame_counts.Refusals.{told}
use Rattle.law_ties.proofs.frame_counts.refusals_law.Goals as goal

pub returns : goal.returns
returns c = record { told = told }
