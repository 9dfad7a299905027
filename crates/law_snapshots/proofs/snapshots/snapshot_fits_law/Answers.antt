use Rattle.law_snapshots.proofs.snapshots.Fitting.{none_fits, snapshot_ascends, snapshot_fits}
use Rattle.law_snapshots.proofs.snapshots.snapshot_fits_law.Goals as goal

pub returns : goal.returns
returns c = record {
  fits = snapshot_fits c.keeps_law.ensures.begins;
  ascends = snapshot_ascends;
  none = none_fits c.keeps_law.ensures.begins;
}
