use Rattle.server_core.proofs.snapshot_writing.OpenLemmas.{kept_so, kept_not}
use Rattle.server_core.proofs.snapshot_writing.ranges.is_kept.Goals as goal

pub returns-in-Some : goal.returns-in-Some
returns-in-Some c = λ s h. kept_so c.in-Some.row.now s c.args.id (c.in-Some.ensures s h)

pub returns-in-None : goal.returns-in-None
returns-in-None c = λ s h. kept_not s c.args.id (c.in-None.ensures s h)
