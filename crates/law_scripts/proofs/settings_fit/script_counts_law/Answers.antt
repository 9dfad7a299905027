use Rattle.law_scripts.proofs.settings_fit.Counts.{are_few}
use Rattle.law_scripts.proofs.settings_fit.script_counts_law.Goals as goal

pub returns : goal.returns
returns c = record { few = are_few }
