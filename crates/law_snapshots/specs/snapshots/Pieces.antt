-- A snapshot (this project's): the part of a state that outlives a restart, piece by piece, and the state that pieces stand for.
use Rattle.std.specs.Prelude.{ℕ, ◌+◌, ◌==◌, nat_lt, suc, zero, Bool, true, false, not, ◌&&◌, if◌then◌else◌, List, [], ◌∷◌, ◌++◌}
use Rattle.std.specs.Prelude.{length, take, Option, Some, None, is_some}
use Rattle.spec_exchange.specs.Table.{put, put2}
use Rattle.spec_exchange.specs.Content.{written, ended}
use Rattle.spec_exchange.specs.Commands.{Basic, deletes_on_close}
use Rattle.spec_exchange.specs.State.{Server, Entry, Open, Range, Kept}
use Rattle.spec_exchange.specs.Files.{root, exists, exists_in}
use Rattle.spec_exchange.specs.Opens.{add_open}
use Rattle.spec_exchange.specs.Effects.{keep_slot}
use Rattle.spec_exchange.specs.Fold.{nothing_yet, persistent_in, ranges_that_stay}

-- ---- pieces

pub data SnapshotPiece : Type 0 where
  -- the numbers, and the times of the root; it comes first
  BasePiece : (version epoch open_ids_given next_file : ℕ) (root_times : Basic) → SnapshotPiece
  -- a file or directory of so many bytes: at its front those that are stored beside the journal, so many of them, and behind them zeros
  FilePiece : (file : ℕ) (path : List ℕ) (directory delete_pending : Bool) (basic : Basic) (size stored : ℕ) → SnapshotPiece
  -- bytes of it, over what stood there
  BytesPiece : (file at : ℕ) (bytes : List ℕ) → SnapshotPiece
  -- a persistent open, without a session
  OpenPiece : (id : ℕ) (row : Open) → SnapshotPiece
  -- what one of its slots keeps
  SlotPiece : (id index number status : ℕ) → SnapshotPiece
  -- a range that it locks, behind those of the same file that were told before; the file is its owner's
  RangePiece : (range : Range) → SnapshotPiece
  -- the guid of an open that expired
  GuidPiece : (client_guid create_guid : ℕ) → SnapshotPiece

-- ---- the state that pieces stand for; a piece that no snapshot has changes nothing

-- entries in ascending order of numbers, with one more at its place
unfoldable pub placed_entry : Entry → List Entry → List Entry
placed_entry e [] = e ∷ []
placed_entry e (x ∷ xs) = if nat_lt e.file x.file then e ∷ x ∷ xs else x ∷ placed_entry e xs

-- a number that was given and that no file has yet
unfoldable pub may_place : Server → ℕ → Bool
may_place s f = nat_lt 0 f && (nat_lt f s.next_file && not (exists_in s.entries f))

abbrev pub place_file : Server → ℕ → List ℕ → Bool → Bool → Basic → ℕ → ℕ → Server
place_file s f path is_dir pending basic size stored =
    record s {
      entries = placed_entry (record { file = f; path = path }) s.entries;
      directory = put s.directory f is_dir;
      delete_pending = put s.delete_pending f pending;
      basic = put s.basic f basic;
      content = put s.content f (ended size (take stored (s.stored f)));
      ranges = put s.ranges f [];
    }

-- a guid that no live open of the client has
unfoldable pub has_free_guid : Server → ℕ → Option ℕ → Bool
has_free_guid s client None = false
has_free_guid s client (Some g) = not (is_some (s.by_guid client g))

-- a persistent open of a file that is there, with an id that doesn't stand and a guid of its own
unfoldable pub may_stand : Server → ℕ → Open → Bool
may_stand s o row = nat_lt 0 o && (not (s.standing o) && (row.persistent && (exists s row.file
    && (not (deletes_on_close row.options && (row.file == root)) && has_free_guid s row.client_guid row.create_guid))))

abbrev pub push_range : Server → ℕ → Range → Server
push_range s f r = record s { ranges = put s.ranges f (s.ranges f ++ r ∷ []) }

abbrev pub with_piece : Server → SnapshotPiece → Server
with_piece s (BasePiece version epoch given next times) = record s {
  version = version;
  epoch = epoch;
  open_ids_given = given;
  next_file = next;
  basic = put s.basic root times;
}
with_piece s (FilePiece f path is_dir pending basic size stored) = if may_place s f then place_file s f path is_dir pending basic size
    stored else s
with_piece s (BytesPiece f at bytes) = if exists_in s.entries f then record s { content = put s.content f (written at bytes (s.content f)) } else s
with_piece s (OpenPiece o row) = if may_stand s o row then add_open s o row None 0 else s
with_piece s (SlotPiece o index number status) = if s.standing o then keep_slot s o index number status else s
with_piece s (RangePiece r) = if s.standing r.owner then push_range s (s.opened r.owner).file r else s
with_piece s (GuidPiece client create) = record s {
  expired_guids = put2 s.expired_guids client create true;
  expired_count = s.expired_count + 1;
}

unfoldable pub with_pieces : Server → List SnapshotPiece → Server
with_pieces s [] = s
with_pieces s (p ∷ ps) = with_pieces (with_piece s p) ps

-- what pieces stand for, where the files beside the journal hold these bytes
abbrev pub unfolded : List SnapshotPiece → (ℕ → List ℕ) → Server
unfolded ps stored = with_pieces (record nothing_yet { stored = stored }) ps

-- ---- the bytes of a file

-- bytes and where they are written
pub record Patch : Type 0 where
  pub at : ℕ
  pub bytes : List ℕ

-- what a snapshot tells of a file's bytes: how many of the stored ones count, and what is written over them, one behind the other
pub record FileBytes : Type 0 where
  pub stored : ℕ
  pub patches : List Patch

unfoldable pub patched : List Patch → List ℕ → List ℕ
patched [] c = c
patched (p ∷ ps) c = patched ps (written p.at p.bytes c)

-- a file of this length whose bytes are told so, where w is stored
abbrev pub shown : FileBytes → ℕ → List ℕ → List ℕ
shown h size w = patched h.patches (ended size (take h.stored w))

-- ---- the snapshot of a state

unfoldable pub bytes_pieces : ℕ → List Patch → List SnapshotPiece
bytes_pieces f [] = []
bytes_pieces f (p ∷ ps) = BytesPiece f p.at p.bytes ∷ bytes_pieces f ps

abbrev pub file_piece : Server → ℕ → Entry → SnapshotPiece
file_piece s stored e = FilePiece e.file e.path (s.directory e.file) (s.delete_pending e.file) (s.basic e.file)
    (length (s.content e.file)) stored

unfoldable pub file_pieces : Server → (ℕ → FileBytes) → List Entry → List SnapshotPiece
file_pieces s held [] = []
file_pieces s held (e ∷ es) = file_piece s (held e.file).stored e ∷ (bytes_pieces e.file (held e.file).patches ++ file_pieces s held es)

unfoldable pub slot_piece : ℕ → ℕ → Option Kept → List SnapshotPiece
slot_piece o index None = []
slot_piece o index (Some k) = SlotPiece o index k.number k.status ∷ []

-- of the slots up to this one
unfoldable pub slot_pieces : (ℕ → Option Kept) → ℕ → ℕ → List SnapshotPiece
slot_pieces slots o zero = []
slot_pieces slots o (suc n) = slot_piece o (suc n) (slots (suc n)) ++ slot_pieces slots o n

unfoldable pub open_pieces : Server → List ℕ → List SnapshotPiece
open_pieces s [] = []
open_pieces s (o ∷ os) = OpenPiece o (s.opened o) ∷ (slot_pieces (s.lock_sequences o) o 64 ++ open_pieces s os)

unfoldable pub range_pieces : List Range → List SnapshotPiece
range_pieces [] = []
range_pieces (r ∷ rs) = RangePiece r ∷ range_pieces rs

unfoldable pub all_range_pieces : Server → List Entry → List SnapshotPiece
all_range_pieces s [] = []
all_range_pieces s (e ∷ es) = range_pieces (ranges_that_stay s (s.ranges e.file)) ++ all_range_pieces s es

unfoldable pub guid_pieces : List (ℕ × ℕ) → List SnapshotPiece
guid_pieces [] = []
guid_pieces (g ∷ gs) = GuidPiece g.0 g.1 ∷ guid_pieces gs

abbrev pub base_piece : Server → SnapshotPiece
base_piece s = BasePiece s.version s.epoch s.open_ids_given s.next_file (s.basic root)

-- what a server writes down in the place of all its records: its files with their bytes, its persistent opens with their slots and
-- ranges, and the guids of expired ones; the files, and what is locked of them, in this order
abbrev pub snapshot_in : Server → (ℕ → FileBytes) → List (ℕ × ℕ) → List Entry → List SnapshotPiece
snapshot_in s held guids order = base_piece s ∷ (file_pieces s held order
    ++ (open_pieces s (persistent_in s.opened s.opens)
    ++ (range_pieces (ranges_that_stay s (s.ranges root)) ++ (all_range_pieces s order ++ guid_pieces guids))))

-- the same in the order of the files' numbers
abbrev pub snapshot : Server → (ℕ → FileBytes) → List (ℕ × ℕ) → List SnapshotPiece
snapshot s held guids = snapshot_in s held guids s.entries
