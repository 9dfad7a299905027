use Rattle.law_answers.proofs.completeness.Runs.{session_found}
use Rattle.law_answers.proofs.completeness.session_found_law.Goals as goal

pub returns : goal.returns
returns c = record { found = session_found }
