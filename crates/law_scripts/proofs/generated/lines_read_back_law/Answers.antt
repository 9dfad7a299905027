use Rattle.law_scripts.proofs.generated.Lines.{lines_read}
use Rattle.law_scripts.proofs.generated.lines_read_back_law.Goals as goal

pub returns : goal.returns
returns c = record { reads = lines_read }
