use Rattle.server_core.proofs.compaction_crash.Left.{again_compacted, taken_compacted}
use Rattle.server_core.proofs.crash.Over.{Starts}
use Rattle.server_core.proofs.compaction_crash.compacted_law.Goals as goal

pub returns : goal.returns
returns c =
    let starts : Starts = record {
      taken = c.snapshot_start_law.ensures.taken;
      same = c.snapshot_start_law.ensures.same;
      again = c.snapshot_start_law.ensures.again;
    } in
    record { taken = taken_compacted starts; again = again_compacted starts }
