use Rattle.std.proofs.Common.{◌≤◌, ℕ, Option, List, Ok}
use Rattle.spec_exchange.specs.State.{Kept}
use Rattle.law_snapshots.specs.snapshots.Pieces.{SnapshotPiece}
use Rattle.store_opens.specs.lock_replay.Shown.{SlotsShown}
use Rattle.server_core.specs.snapshot_writing.Told.{IsTold, DraftGoesOn}
use Rattle.server_core.proofs.snapshot_writing.OpenLemmas.{SlotsSoFar}
use Rattle.server_core.proofs.snapshot_writing.opens.tell_slots.Given as goal

abbrev pub invariant-loop-index : goal.invariant-loop-index
invariant-loop-index g l = (l.index ≤ 64) × ((kept : ℕ → Option Kept) (ps : List SnapshotPiece) → SlotsShown l.slots kept
    → IsTold g.D.Disk.told g.D.Renewal.drafted l.initial.journal.disk l.initial.rewrite l.initial.body.items ps
    → SlotsSoFar g.D.Disk.told g.D.Renewal.drafted l.journal.disk l.rewrite l.body.items kept l.id ps l.index)
    × DraftGoesOn g.D.Disk.told g.D.Disk.seen g.D.Disk.may_leave g.D.Disk.moment g.D.Disk.left_since g.D.Disk.faults l.initial.journal l.journal (Ok tt)

abbrev pub decreases-loop-index : goal.decreases-loop-index
decreases-loop-index g l = l.index
