use Rattle.journal.proofs.checksum.Steps.{in_parts}
use Rattle.journal.proofs.checksum.laws.sums_law.Goals as goal

pub returns : goal.returns
returns c = record { parts = in_parts }
