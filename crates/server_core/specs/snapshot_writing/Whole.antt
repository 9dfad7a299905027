-- A snapshot that stands whole in a draft.
use Rattle.std.specs.Prelude.{◌<◌, ◌≤◌, ℕ, ◌∷◌, ◌++◌, List, length}
use Rattle.spec_exchange.specs.State.{Server}
use Rattle.spec_exchange.specs.Files.{root}
use Rattle.spec_exchange.specs.Fold.{ranges_that_stay}
use Rattle.law_snapshots.specs.snapshots.Pieces.{SnapshotPiece, FileBytes, base_piece, file_pieces, open_pieces, range_pieces}
use Rattle.law_snapshots.specs.snapshots.Pieces.{all_range_pieces, guid_pieces}
use Rattle.journal.specs.disk_journal.Rewrite.{RewriteState, IsDrafted}
use Rattle.store_files.specs.file_tree.Placed.{IsPathOrder}
use Rattle.store_opens.specs.open_table.Stood.{AreExpired}
use Rattle.law_snapshots.specs.snapshots.Taken.{numbered_entries}
use Rattle.law_snapshots.specs.snapshots.Pieces.{snapshot_in}
use Rattle.server_core.specs.snapshot_writing.Told.{AreBodiesOf, IsTold}
use Rattle.server_core.specs.snapshot_writing.Files.{TellsFiles}

-- files, opens, ranges and guids are told
abbrev pub TablesTold : {D : Type 0} → Type 0 → (D → List ℕ) → D → RewriteState → List ℕ → Server → List ℕ → List ℕ → List (ℕ × ℕ)
    → List SnapshotPiece → Type 0
TablesTold told drafted disk w body s order ids guids ps = (held : ℕ → FileBytes) × TellsFiles s held order
    × IsTold told drafted disk w body (ps ++ (file_pieces s held (numbered_entries s order) ++ (open_pieces s ids
    ++ (range_pieces (ranges_that_stay s (s.ranges root)) ++ (all_range_pieces s (numbered_entries s order) ++ guid_pieces guids)))))

-- and the numbers before them
abbrev pub AllTold : {D : Type 0} → Type 0 → (D → List ℕ) → D → RewriteState → List ℕ → Server → List ℕ → List ℕ → List (ℕ × ℕ)
    → List SnapshotPiece → Type 0
AllTold told drafted disk w body s order ids guids ps = (held : ℕ → FileBytes) × TellsFiles s held order
    × IsTold told drafted disk w body (ps ++ base_piece s ∷ (file_pieces s held (numbered_entries s order) ++ (open_pieces s ids
    ++ (range_pieces (ranges_that_stay s (s.ranges root)) ++ (all_range_pieces s (numbered_entries s order) ++ guid_pieces guids)))))

-- bodies that are all pieces of the state, its files in the order of their paths with all their bytes, and each guid that expired once.
-- It began an epoch, and no more guids expired than a server lets expire.
pub record IsSnapshotOf (s : Server) (bodies : List (List ℕ)) : Type 0 where
  pub held : ℕ → FileBytes
  pub guids : List (ℕ × ℕ)
  pub order : List ℕ
  pub pieces : AreBodiesOf bodies (snapshot_in s held guids (numbered_entries s order))
  pub tells : TellsFiles s held order
  pub ordered : IsPathOrder order s
  pub expired : AreExpired guids s
  pub begun : 0 < s.epoch
  pub few : length guids ≤ 65536

-- they stand in the draft
pub record IsWholeSnapshot {D : Type 0} (told : Type 0) (drafted : D → List ℕ) (disk : D) (rewrite : RewriteState)
    (s : Server) : Type 0 where
  pub bodies : List (List ℕ)
  pub draft : told → IsDrafted drafted disk rewrite bodies
  pub snapshot : IsSnapshotOf s bodies
