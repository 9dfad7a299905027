use Rattle.law_answers.proofs.statuses.Runs.{statuses_fit}
use Rattle.law_answers.proofs.statuses.statuses_fit_law.Goals as goal

pub returns : goal.returns
returns c = record { fit = statuses_fit }
