use Rattle.law_snapshots.proofs.snapshots.Fitting.{order_ascends, order_fits}
use Rattle.law_snapshots.proofs.snapshots.Whole.{order_keeps}
use Rattle.law_snapshots.proofs.snapshots.order_law.Goals as goal

pub returns : goal.returns
returns c = record { keeps = order_keeps; fits = order_fits c.keeps_law.ensures.begins; ascends = order_ascends }
