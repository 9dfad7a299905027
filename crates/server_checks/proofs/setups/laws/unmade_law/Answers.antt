use Rattle.server_checks.proofs.setups.Steps.{unmade}
use Rattle.server_checks.proofs.setups.laws.unmade_law.Goals as goal

pub returns : goal.returns
returns c = unmade
