use Rattle.std.proofs.Common.{◌++◌, List, Ok, take, map}
use Rattle.spec_exchange.specs.State.{Server}
use Rattle.law_snapshots.specs.snapshots.Pieces.{SnapshotPiece, range_pieces}
use Rattle.store_opens.specs.open_table.Shown.{ShowsOpens}
use Rattle.spec_exchange.specs.Fold.{ranges_that_stay}
use Rattle.store_opens.specs.share_modes.Locking.{range_of}
use Rattle.server_core.specs.snapshot_writing.Told.{IsTold, DraftGoesOn}
use Rattle.server_core.proofs.snapshot_writing.ranges.tell_ranges.Given as goal

abbrev pub invariant-loop-range : goal.invariant-loop-range
invariant-loop-range g l = ((s : Server) (ps : List SnapshotPiece) → ShowsOpens l.opens s
    → IsTold g.D.Disk.told g.D.Renewal.drafted l.initial.journal.disk l.initial.rewrite l.initial.body.items ps
    → IsTold g.D.Disk.told g.D.Renewal.drafted l.journal.disk l.rewrite l.body.items (ps ++ range_pieces (ranges_that_stay s (map range_of (take l.range-index l.ranges)))))
    × DraftGoesOn g.D.Disk.told g.D.Disk.seen g.D.Disk.may_leave g.D.Disk.moment g.D.Disk.left_since g.D.Disk.faults l.initial.journal l.journal (Ok tt)
