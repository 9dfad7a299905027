-- Files of a snapshot under way, with their bytes part by part.
use Rattle.std.specs.Prelude.{◌≡◌, ℕ, ◌∷◌, ◌++◌, [], List, length, true}
use Rattle.spec_exchange.specs.Table.{has}
use Rattle.spec_exchange.specs.Content.{ended}
use Rattle.spec_exchange.specs.State.{Server}
use Rattle.spec_exchange.specs.Files.{exists_in, path_of}
use Rattle.law_snapshots.specs.snapshots.Pieces.{SnapshotPiece, FilePiece, Patch, FileBytes, patched, bytes_pieces, file_pieces}
use Rattle.law_snapshots.specs.snapshots.Taken.{all_filled, numbered_entries}
use Rattle.journal.specs.disk_journal.Rewrite.{RewriteState}
use Rattle.journal_bytes.specs.declared.piece_bytes.value.FileFront.{FileFront}
use Rattle.store_files.specs.file_extents.Parts.{up_to}
use Rattle.server_core.specs.snapshot_writing.Told.{IsTold}

-- a file but for its bytes, of which none are stored beside the journal
abbrev pub front_piece : Server → ℕ → SnapshotPiece
front_piece s f = FilePiece f (path_of s f) (s.directory f) (s.delete_pending f) (s.basic f) (length (s.content f)) 0

pub record IsFrontOf (front : FileFront) (s : Server) (f : ℕ) : Type 0 where
  pub directory : front.directory ≡ s.directory f
  pub pending : front.pending ≡ s.delete_pending f
  pub basic : front.basic ≡ s.basic f
  pub size : front.size ≡ length (s.content f)
  pub stored : front.stored ≡ 0

-- these patches, none of them empty, are the file's bytes
pub record ArePatchesOf (s : Server) (f : ℕ) (patches : List Patch) : Type 0 where
  pub whole : patched patches (ended (length (s.content f)) []) ≡ s.content f
  pub filled : all_filled patches ≡ true

-- the bytes of a file up to a place are told behind these pieces
abbrev pub PartsSoFar : {D : Type 0} → Type 0 → (D → List ℕ) → D → RewriteState → List ℕ → Server → ℕ → List SnapshotPiece → ℕ → Type 0
PartsSoFar told drafted disk w body s f ps at = (patches : List Patch)
    × (patched patches (ended (length (s.content f)) []) ≡ up_to at (s.content f)) × (all_filled patches ≡ true)
    × IsTold told drafted disk w body (ps ++ bytes_pieces f patches)

-- all of them are
abbrev pub PartsTold : {D : Type 0} → Type 0 → (D → List ℕ) → D → RewriteState → List ℕ → Server → ℕ → List SnapshotPiece → Type 0
PartsTold told drafted disk w body s f ps = (patches : List Patch) × ArePatchesOf s f patches
    × IsTold told drafted disk w body (ps ++ bytes_pieces f patches)

-- and the file before them
abbrev pub FileTold : {D : Type 0} → Type 0 → (D → List ℕ) → D → RewriteState → List ℕ → Server → ℕ → List SnapshotPiece → Type 0
FileTold told drafted disk w body s f ps = (patches : List Patch) × ArePatchesOf s f patches
    × IsTold told drafted disk w body (ps ++ front_piece s f ∷ bytes_pieces f patches)

-- each number is a file's
abbrev pub AreFilesOf : Server → List ℕ → Type 0
AreFilesOf s fs = (f : ℕ) → has f fs ≡ true → exists_in s.entries f ≡ true

-- what is told of the bytes of these files
pub record TellsFiles (s : Server) (held : ℕ → FileBytes) (fs : List ℕ) : Type 0 where
  pub stored : (f : ℕ) → has f fs ≡ true → (held f).stored ≡ 0
  pub patches : (f : ℕ) → has f fs ≡ true → ArePatchesOf s f (held f).patches

abbrev pub FilesTold : {D : Type 0} → Type 0 → (D → List ℕ) → D → RewriteState → List ℕ → Server → List ℕ → List SnapshotPiece → Type 0
FilesTold told drafted disk w body s fs ps = (held : ℕ → FileBytes) × TellsFiles s held fs
    × IsTold told drafted disk w body (ps ++ file_pieces s held (numbered_entries s fs))
