-- What a snapshot stands for with the records behind it.
use Rattle.std.specs.Prelude.{ℕ, List}
use Rattle.spec_exchange.specs.State.{Server, Record}
use Rattle.spec_exchange.specs.Fold.{fold_from}
use Rattle.law_snapshots.specs.snapshots.Pieces.{SnapshotPiece, unfolded}
use Rattle.law_snapshots.specs.snapshots.Kept.{Keeps}

-- the state that a recovery finds before it begins an epoch, where the files beside the journal hold these bytes
abbrev pub found : List SnapshotPiece → (ℕ → List ℕ) → List Record → Server
found base stored since = fold_from (unfolded base stored) since

-- a snapshot, the bytes beside the journal, and the records since stand for the server; no pieces are a journal without a snapshot
abbrev pub FoundFor : List SnapshotPiece → (ℕ → List ℕ) → List Record → Server → Type 0
FoundFor base stored since s = Keeps (found base stored since) s
