use Rattle.law_outcomes.proofs.scripts.Scripts.{script_ends}
use Rattle.law_outcomes.proofs.scripts.script_outcomes_law.Goals as goal

pub returns : goal.returns
returns c = record { ends = script_ends }
