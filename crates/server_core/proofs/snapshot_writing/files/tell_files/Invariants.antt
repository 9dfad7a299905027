use Rattle.std.proofs.Common.{List, Ok, take}
use Rattle.spec_exchange.specs.State.{Server}
use Rattle.law_snapshots.specs.snapshots.Pieces.{SnapshotPiece}
use Rattle.store_files.specs.file_tree.Shown.{ShowsFiles}
use Rattle.store_files.specs.file_tree.Placed.{Once}
use Rattle.server_core.specs.snapshot_writing.Told.{IsTold, DraftGoesOn}
use Rattle.server_core.specs.snapshot_writing.Files.{FilesTold, AreFilesOf}
use Rattle.server_core.proofs.snapshot_writing.files.tell_files.Given as goal

abbrev pub invariant-loop-file : goal.invariant-loop-file
invariant-loop-file g l = ((s : Server) (ps : List SnapshotPiece) → ShowsFiles l.tree s → AreFilesOf s l.order → Once l.order
    → IsTold g.D.Disk.told g.D.Renewal.drafted l.initial.journal.disk l.initial.rewrite l.initial.body.items ps
    → FilesTold g.D.Disk.told g.D.Renewal.drafted l.journal.disk l.rewrite l.body.items s (take l.file-index l.order) ps)
    × DraftGoesOn g.D.Disk.told g.D.Disk.seen g.D.Disk.may_leave g.D.Disk.moment g.D.Disk.left_since g.D.Disk.faults l.initial.journal l.journal (Ok tt)
