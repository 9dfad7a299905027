use Rattle.law_answers.proofs.answers.Logs.{successes_log_on}
use Rattle.law_answers.proofs.answers.successes_log_on_law.Goals as goal

pub returns : goal.returns
returns c = record { logs = successes_log_on }
