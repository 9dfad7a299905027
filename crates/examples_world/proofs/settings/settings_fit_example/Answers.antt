use Rattle.examples_world.proofs.settings.Fitting.{settings_fit}
use Rattle.examples_world.proofs.settings.settings_fit_example.Goals as goal

pub returns : goal.returns
returns c = record { fit = settings_fit }
