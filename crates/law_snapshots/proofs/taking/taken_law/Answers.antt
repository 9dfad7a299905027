use Rattle.law_snapshots.proofs.taking.Ordered.{ordered}
use Rattle.law_snapshots.proofs.taking.Whole.{told}
use Rattle.law_snapshots.proofs.taking.taken_law.Goals as goal

pub returns : goal.returns
returns c = record { all = told; order = ordered }
