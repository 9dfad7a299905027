use Rattle.law_outcomes.proofs.outcomes.Answers.{all_answered}
use Rattle.law_outcomes.proofs.outcomes.lossless_law.Goals as goal

pub returns : goal.returns
returns c = record { answered = all_answered }
