use Rattle.law_scripts.proofs.generated.Made.{made_few}
use Rattle.law_scripts.proofs.generated.made_lines_law.Goals as goal

pub returns : goal.returns
returns c = record { few = made_few }
