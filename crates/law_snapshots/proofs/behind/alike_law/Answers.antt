use Rattle.law_snapshots.proofs.behind.Borrowed.{kept, mirrored}
use Rattle.law_snapshots.proofs.behind.Steps.{folds_alike}
use Rattle.law_snapshots.proofs.behind.alike_law.Goals as goal

pub returns : goal.returns
returns c = record { alike = folds_alike; mirrored = mirrored; kept = kept }
