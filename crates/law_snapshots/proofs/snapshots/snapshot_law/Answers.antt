use Rattle.law_snapshots.proofs.snapshots.Whole.{snapshot_keeps}
use Rattle.law_snapshots.proofs.snapshots.snapshot_law.Goals as goal

pub returns : goal.returns
returns c = snapshot_keeps
