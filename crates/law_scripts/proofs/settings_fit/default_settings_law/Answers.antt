use Rattle.law_scripts.proofs.settings_fit.Settings.{defaults_fit}
use Rattle.law_scripts.proofs.settings_fit.default_settings_law.Goals as goal

pub returns : goal.returns
returns c = record { fit = defaults_fit }
