use Rattle.std.proofs.Common.{◌++◌, List, Ok, take}
use Rattle.spec_exchange.specs.State.{Server}
use Rattle.law_snapshots.specs.snapshots.Pieces.{SnapshotPiece, all_range_pieces}
use Rattle.store_opens.specs.open_table.Shown.{ShowsOpens}
use Rattle.law_snapshots.specs.snapshots.Taken.{numbered_entries}
use Rattle.server_core.specs.snapshot_writing.Told.{IsTold, DraftGoesOn}
use Rattle.server_core.proofs.snapshot_writing.ranges.tell_all_ranges.Given as goal

abbrev pub invariant-loop-file : goal.invariant-loop-file
invariant-loop-file g l = ((s : Server) (ps : List SnapshotPiece) → ShowsOpens l.opens s
    → IsTold g.D.Disk.told g.D.Renewal.drafted l.initial.journal.disk l.initial.rewrite l.initial.body.items ps
    → IsTold g.D.Disk.told g.D.Renewal.drafted l.journal.disk l.rewrite l.body.items (ps ++ all_range_pieces s (numbered_entries s (take l.file-index l.order))))
    × DraftGoesOn g.D.Disk.told g.D.Disk.seen g.D.Disk.may_leave g.D.Disk.moment g.D.Disk.left_since g.D.Disk.faults l.initial.journal l.journal (Ok tt)
