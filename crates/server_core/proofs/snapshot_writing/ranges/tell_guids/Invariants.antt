use Rattle.std.proofs.Common.{◌++◌, List, Ok, take}
use Rattle.law_snapshots.specs.snapshots.Pieces.{SnapshotPiece, guid_pieces}
use Rattle.server_core.specs.snapshot_writing.Told.{IsTold, DraftGoesOn}
use Rattle.server_core.proofs.snapshot_writing.ranges.tell_guids.Given as goal

abbrev pub invariant-loop-pair : goal.invariant-loop-pair
invariant-loop-pair g l = ((ps : List SnapshotPiece)
    → IsTold g.D.Disk.told g.D.Renewal.drafted l.initial.journal.disk l.initial.rewrite l.initial.body.items ps
    → IsTold g.D.Disk.told g.D.Renewal.drafted l.journal.disk l.rewrite l.body.items (ps ++ guid_pieces (take l.pair-index l.guids)))
    × DraftGoesOn g.D.Disk.told g.D.Disk.seen g.D.Disk.may_leave g.D.Disk.moment g.D.Disk.left_since g.D.Disk.faults l.initial.journal l.journal (Ok tt)
