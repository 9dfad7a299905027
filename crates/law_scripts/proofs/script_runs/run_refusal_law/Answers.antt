use Rattle.law_scripts.proofs.script_runs.Schedules.{is_first}
use Rattle.law_scripts.proofs.script_runs.run_refusal_law.Goals as goal

pub returns : goal.returns
returns c = record { first = is_first }
