use Rattle.server_checks.proofs.setups.Steps.{absent}
use Rattle.server_checks.proofs.setups.laws.absent_law.Goals as goal

pub returns : goal.returns
returns c = absent
