use Rattle.law_snapshots.proofs.checksums.Breaks.{told_at}
use Rattle.law_snapshots.proofs.checksums.changed_byte_law.Goals as goal

pub returns : goal.returns
returns c = told_at
