-- How many bytes a snapshot takes, and the limits within which it stays below the journal's lower limit.
use Rattle.std.specs.Prelude.{ℕ, ◌+◌, ◌*◌, ◌≤◌, List, [], ◌∷◌, length, All}
use Rattle.spec_exchange.specs.Texts.{utf16_length}
use Rattle.spec_exchange.specs.Records.{text_size}
use Rattle.spec_exchange.specs.State.{Server, Entry}
use Rattle.spec_exchange.specs.Files.{root}
use Rattle.spec_exchange.specs.Fold.{persistent_in, ranges_that_stay}
use Rattle.law_snapshots.specs.snapshots.Pieces.{SnapshotPiece, BasePiece, FilePiece, BytesPiece, OpenPiece, SlotPiece, RangePiece, GuidPiece}
use Rattle.law_snapshots.specs.snapshots.Pieces.{FileBytes, Patch}

-- a kind of 1 byte, then the fields
unfoldable pub piece_size : SnapshotPiece → ℕ
piece_size (BasePiece version epoch given next times) = 57
piece_size (FilePiece f path is_dir pending basic size stored) = 63 + text_size path
piece_size (BytesPiece f at bytes) = 21 + length bytes
piece_size (OpenPiece o row) = 69 + text_size row.user
piece_size (SlotPiece o index number status) = 15
piece_size (RangePiece r) = 26
piece_size (GuidPiece client create) = 33

unfoldable pub pieces_size : List SnapshotPiece → ℕ
pieces_size [] = 0
pieces_size (p ∷ ps) = piece_size p + pieces_size ps

-- ---- limits

unfoldable pub patch_bytes : List Patch → ℕ
patch_bytes [] = 0
patch_bytes (p ∷ ps) = length p.bytes + patch_bytes ps

-- the parts in which the bytes of all files are told, and those bytes
unfoldable pub all_parts : (ℕ → FileBytes) → List Entry → ℕ
all_parts held [] = 0
all_parts held (e ∷ es) = length (held e.file).patches + all_parts held es

unfoldable pub all_bytes : (ℕ → FileBytes) → List Entry → ℕ
all_bytes held [] = 0
all_bytes held (e ∷ es) = patch_bytes (held e.file).patches + all_bytes held es

-- the ranges of all files but the root that stay
unfoldable pub all_ranges : Server → List Entry → ℕ
all_ranges s [] = 0
all_ranges s (e ∷ es) = length (ranges_that_stay s (s.ranges e.file)) + all_ranges s es

-- Files and directories, UTF-16 units of a path, opens, units of a user's name, ranges of all opens, expired guids, the room and the parts
-- in which its bytes are told.
pub record IsWithinLimits (s : Server) (held : ℕ → FileBytes) (guids : List (ℕ × ℕ)) : Type 0 where
  pub files : length s.entries ≤ 65536
  pub paths : All (λ (e : Entry). utf16_length e.path ≤ 1024) s.entries
  pub opens : length (persistent_in s.opened s.opens) ≤ 16384
  pub users : (o : ℕ) → utf16_length (s.opened o).user ≤ 256
  pub ranges : length (ranges_that_stay s (s.ranges root)) + all_ranges s s.entries ≤ 16384 * 1024
  pub expired : length guids ≤ 65536
  pub bytes : all_bytes held s.entries ≤ 268435456
  pub parts : all_parts held s.entries ≤ 131072
