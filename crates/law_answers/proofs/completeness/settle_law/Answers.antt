use Rattle.law_answers.proofs.completeness.Runs.{settle_settles}
use Rattle.law_answers.proofs.completeness.settle_law.Goals as goal

pub returns : goal.returns
returns c = record { settles = settle_settles }
