use Rattle.law_scripts.proofs.generated.Made.{scripts_read}
use Rattle.law_scripts.proofs.generated.gen_reads_back_law.Goals as goal

pub returns : goal.returns
returns c = record { reads = scripts_read }
