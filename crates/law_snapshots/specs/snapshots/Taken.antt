-- What a reader takes of pieces: where this was read of a snapshot so far, a piece that a server may have written next. It refuses each
-- other as no snapshot of a server.
use Rattle.std.specs.Prelude.{◌≡◌, ℕ, ◌+◌, ◌<◌, ◌≤◌, ◌==◌, nat_le, nat_lt, Bool, true, false, not, ◌&&◌, List, [], ◌∷◌, ◌++◌}
use Rattle.std.specs.Prelude.{length, Some, is_some}
use Rattle.spec_exchange.specs.Table.{has}
use Rattle.spec_exchange.specs.Texts.{leaf_of, parent_of, is_component, begins_with_backslash}
use Rattle.spec_exchange.specs.Content.{is_empty}
use Rattle.spec_exchange.specs.State.{Server, Entry}
use Rattle.spec_exchange.specs.Files.{root, exists_in, find, path_of, has_parent, used}
use Rattle.spec_exchange.specs.Opens.{id_of, max_ids}
use Rattle.spec_exchange.specs.CheckOpen.{is_slot}
use Rattle.spec_exchange.specs.Step.{max_expired_guids}
use Rattle.law_snapshots.specs.snapshots.Kept.{are_distinct, has_pair}
use Rattle.law_snapshots.specs.snapshots.Pieces.{SnapshotPiece, BasePiece, FilePiece, BytesPiece, OpenPiece, SlotPiece, RangePiece, GuidPiece}
use Rattle.law_snapshots.specs.snapshots.Pieces.{FileBytes, Patch, may_place, may_stand, with_piece}

-- ---- one piece

-- no number was given yet, of an epoch, an open or a file
unfoldable pub is_unnumbered : Server → Bool
is_unnumbered s = (s.epoch == 0) && ((s.open_ids_given == 0) && (s.next_file == 1))

-- a path that ends in a name, at which nothing stands, in a directory that is there
unfoldable pub may_name : Server → List ℕ → Bool
may_name s path = (is_component (leaf_of path) && not (begins_with_backslash path))
    && (not (is_some (find s path)) && has_parent s path)

-- with one more file of this size the sum of all lengths is one of 64 bits
unfoldable pub has_size : Server → ℕ → Bool
has_size s size = nat_lt (used s + size) 0x1_0000_0000_0000_0000

-- The numbers come first, and once. Nothing is stored beside the journal yet. Bytes stand within their file. The id of an open was given.
-- A slot's index is one of 1 to 64. No guid expires twice.
abbrev pub takes_piece : Server → SnapshotPiece → Bool
takes_piece s (BasePiece version epoch given next times) = is_unnumbered s
    && ((version == 2) && (nat_lt 0 epoch && (nat_le given max_ids && nat_lt 0 next)))
takes_piece s (FilePiece f path is_dir pending basic size stored) = may_place s f
    && (may_name s path && (has_size s size && (stored == 0)))
takes_piece s (BytesPiece f at bytes) = exists_in s.entries f
    && (not (is_empty bytes) && nat_le (at + length bytes) (length (s.content f)))
takes_piece s (OpenPiece o row) = may_stand s o row && nat_le o (id_of s.epoch s.open_ids_given)
takes_piece s (SlotPiece o index number status) = s.standing o && is_slot index
takes_piece s (RangePiece r) = s.standing r.owner
takes_piece s (GuidPiece client create) = nat_lt 0 s.epoch
    && (not (s.expired_guids client create) && nat_lt s.expired_count max_expired_guids)

-- all of them, one behind the other
unfoldable pub takes_pieces : Server → List SnapshotPiece → Bool
takes_pieces s [] = true
takes_pieces s (p ∷ ps) = takes_piece s p && takes_pieces (with_piece s p) ps

-- ---- what a server sees to, so that its snapshot is taken

-- each of these files has a path of its own, behind that of the directory in which it stands
unfoldable pub are_parents_first : Server → List Entry → List Entry → Bool
are_parents_first s before [] = true
are_parents_first s before (e ∷ es) = may_name (record s { entries = before }) e.path && are_parents_first s (before ++ e ∷ []) es

unfoldable pub all_filled : List Patch → Bool
all_filled [] = true
all_filled (p ∷ ps) = not (is_empty p.bytes) && all_filled ps

-- no pair stands twice
unfoldable pub are_pairs_distinct : List (ℕ × ℕ) → Bool
are_pairs_distinct [] = true
are_pairs_distinct (p ∷ ps) = not (has_pair p.0 p.1 ps) && are_pairs_distinct ps

-- it began an epoch; files are told with some bytes at a time, and none are stored beside the journal; numbers are within their limits
pub record IsTakable (s : Server) (held : ℕ → FileBytes) (guids : List (ℕ × ℕ)) (order : List Entry) : Type 0 where
  pub version : s.version ≡ 2
  pub epoch : 0 < s.epoch
  pub parents : are_parents_first s [] order ≡ true
  pub stored : (f : ℕ) → exists_in s.entries f ≡ true → (held f).stored ≡ 0
  pub filled : (f : ℕ) → exists_in s.entries f ≡ true → all_filled (held f).patches ≡ true
  pub bytes : used s < 0x1_0000_0000_0000_0000
  pub expired : length guids ≤ 65536
  pub expired_once : are_pairs_distinct guids ≡ true

-- ---- files by their numbers, at the paths that they have

unfoldable pub numbered_entries : Server → List ℕ → List Entry
numbered_entries s [] = []
numbered_entries s (f ∷ fs) = record { file = f; path = path_of s f } ∷ numbered_entries s fs

-- all files of the state, once each and each behind its directory; paths are names of one file, and stand in directories
pub record AreParentsFirst (s : Server) (fs : List ℕ) : Type 0 where
  pub each : (f : ℕ) → has f fs ≡ exists_in s.entries f
  pub once : are_distinct fs ≡ true
  pub behind : (front back : List ℕ) (f d : ℕ) → fs ≡ front ++ f ∷ back → find s (parent_of (path_of s f)) ≡ Some d → (d == root) ≡ false
      → has d front ≡ true
  pub named : (f : ℕ) → exists_in s.entries f ≡ true → find s (path_of s f) ≡ Some f
  pub placeable : (f : ℕ) → exists_in s.entries f ≡ true
      → (is_component (leaf_of (path_of s f)) && not (begins_with_backslash (path_of s f))) ≡ true
  pub housed : (f : ℕ) → exists_in s.entries f ≡ true → has_parent s (path_of s f) ≡ true
