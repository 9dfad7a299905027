use Rattle.std.proofs.Common.{◌++◌, List, Ok, take}
use Rattle.spec_exchange.specs.State.{Server}
use Rattle.law_snapshots.specs.snapshots.Pieces.{SnapshotPiece, open_pieces}
use Rattle.store_opens.specs.open_table.Shown.{ShowsOpens}
use Rattle.server_core.specs.snapshot_writing.Opens.{ArePersistent}
use Rattle.server_core.specs.snapshot_writing.Told.{IsTold, DraftGoesOn}
use Rattle.server_core.proofs.snapshot_writing.opens.tell_opens.Given as goal

abbrev pub invariant-loop-id : goal.invariant-loop-id
invariant-loop-id g l = ((s : Server) (ps : List SnapshotPiece) → ShowsOpens l.opens s → ArePersistent s l.ids
    → IsTold g.D.Disk.told g.D.Renewal.drafted l.initial.journal.disk l.initial.rewrite l.initial.body.items ps
    → IsTold g.D.Disk.told g.D.Renewal.drafted l.journal.disk l.rewrite l.body.items (ps ++ open_pieces s (take l.id-index l.ids)))
    × DraftGoesOn g.D.Disk.told g.D.Disk.seen g.D.Disk.may_leave g.D.Disk.moment g.D.Disk.left_since g.D.Disk.faults l.initial.journal l.journal (Ok tt)
