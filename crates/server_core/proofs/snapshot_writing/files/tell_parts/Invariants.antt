use Rattle.std.proofs.Common.{◌≡◌, ◌-◌, true, List, Ok}
use Rattle.spec_exchange.specs.State.{Server}
use Rattle.spec_exchange.specs.Files.{exists_in}
use Rattle.law_snapshots.specs.snapshots.Pieces.{SnapshotPiece}
use Rattle.store_files.specs.file_tree.Shown.{ShowsFiles}
use Rattle.server_core.specs.snapshot_writing.Told.{IsTold, DraftGoesOn}
use Rattle.server_core.specs.snapshot_writing.Files.{PartsSoFar}
use Rattle.server_core.proofs.snapshot_writing.files.tell_parts.Given as goal

abbrev pub invariant-loop-at : goal.invariant-loop-at
invariant-loop-at g l = ((s : Server) (ps : List SnapshotPiece) → ShowsFiles l.tree s → exists_in s.entries l.file ≡ true
    → IsTold g.D.Disk.told g.D.Renewal.drafted l.initial.journal.disk l.initial.rewrite l.initial.body.items ps
    → PartsSoFar g.D.Disk.told g.D.Renewal.drafted l.journal.disk l.rewrite l.body.items s l.file ps l.at)
    × DraftGoesOn g.D.Disk.told g.D.Disk.seen g.D.Disk.may_leave g.D.Disk.moment g.D.Disk.left_since g.D.Disk.faults l.initial.journal l.journal (Ok tt)

abbrev pub decreases-loop-at : goal.decreases-loop-at
decreases-loop-at g l = l.length - l.at
