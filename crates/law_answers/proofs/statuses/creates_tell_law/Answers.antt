use Rattle.law_answers.proofs.statuses.Creates.{creates_tell}
use Rattle.law_answers.proofs.statuses.creates_tell_law.Goals as goal

pub returns : goal.returns
returns c = record { tell = creates_tell }
