use Rattle.law_scripts.proofs.settings_fit.Settings.{scripts_fit}
use Rattle.law_scripts.proofs.settings_fit.script_settings_law.Goals as goal

pub returns : goal.returns
returns c = record { fit = scripts_fit }
