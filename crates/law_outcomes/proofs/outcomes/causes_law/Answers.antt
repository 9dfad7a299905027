use Rattle.law_outcomes.proofs.outcomes.Causes.{causes_told}
use Rattle.law_outcomes.proofs.outcomes.causes_law.Goals as goal

pub returns : goal.returns
returns c = record { causes = causes_told }
