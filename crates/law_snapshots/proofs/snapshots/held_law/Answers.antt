use Rattle.law_snapshots.proofs.snapshots.Bytes.{cut_told, stored_told}
use Rattle.law_snapshots.proofs.snapshots.held_law.Goals as goal

pub returns : goal.returns
returns c = record { cut = cut_told; stored = stored_told }
