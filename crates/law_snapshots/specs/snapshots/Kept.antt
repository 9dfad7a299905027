-- What a snapshot keeps of a state, and what it is made with.
use Rattle.std.specs.Prelude.{◌≡◌, ℕ, ◌+◌, ◌<◌, ◌≤◌, ◌==◌, Bool, true, false, not, ◌&&◌, if◌then◌else◌, List, [], ◌∷◌, ◌++◌, length}
use Rattle.spec_exchange.specs.Table.{has}
use Rattle.spec_exchange.specs.Commands.{Basic}
use Rattle.spec_exchange.specs.State.{Server, Entry}
use Rattle.spec_exchange.specs.Files.{root, exists_in, path_in}
use Rattle.spec_exchange.specs.Fold.{full_room, persistent_in, stays, stays_by_guid, ranges_that_stay}
use Rattle.law_records.specs.fold.Order.{FilesAscend, numbers}
use Rattle.law_server.specs.tables.Fits.{Fits}
use Rattle.law_snapshots.specs.snapshots.Pieces.{FileBytes, Patch, shown, snapshot, unfolded}

-- ---- what is kept: column by column as a recovery finds it, but of files only those that are there

-- the files that are there; what the columns have at the number of a file that is gone is no part of it
pub record FilesKept (d_entries s_entries : List Entry) (d_next s_next : ℕ) (d_directory s_directory d_pending s_pending : ℕ → Bool)
    (d_basic s_basic : ℕ → Basic) (d_content s_content : ℕ → List ℕ) : Type 0 where
  pub entries : d_entries ≡ s_entries
  pub next_file : d_next ≡ s_next
  pub root_times : d_basic root ≡ s_basic root
  pub directory : (f : ℕ) → exists_in s_entries f ≡ true → d_directory f ≡ s_directory f
  pub delete_pending : (f : ℕ) → exists_in s_entries f ≡ true → d_pending f ≡ s_pending f
  pub basic : (f : ℕ) → exists_in s_entries f ≡ true → d_basic f ≡ s_basic f
  pub content : (f : ℕ) → exists_in s_entries f ≡ true → d_content f ≡ s_content f

-- the persistent opens, with their slots (1 to 64), their guids and ranges
pub record OpensKept (d s : Server) : Type 0 where
  pub opens : d.opens ≡ persistent_in s.opened s.opens
  pub standing : (o : ℕ) → d.standing o ≡ stays s o
  pub opened : (o : ℕ) → stays s o ≡ true → d.opened o ≡ s.opened o
  pub lock_sequences : (o i : ℕ) → stays s o ≡ true → 0 < i → i ≤ 64 → d.lock_sequences o i ≡ s.lock_sequences o i
  pub by_guid : (c g : ℕ) → d.by_guid c g ≡ stays_by_guid s (s.by_guid c g)
  pub ranges : (f : ℕ) → d.ranges f ≡ ranges_that_stay s (s.ranges f)

-- the numbers; ids of plain opens are given without a record
pub record CountsKept (d s : Server) : Type 0 where
  pub version : d.version ≡ s.version
  pub epoch : d.epoch ≡ s.epoch
  pub open_ids_given : d.open_ids_given ≤ s.open_ids_given
  pub full : d.room ≡ full_room
  pub room : s.room ≤ full_room
  pub expired_guids : (c g : ℕ) → d.expired_guids c g ≡ s.expired_guids c g
  pub expired_count : d.expired_count ≡ s.expired_count

abbrev pub SnapshotFiles : Server → Server → Type 0
SnapshotFiles d s = FilesKept d.entries s.entries d.next_file s.next_file d.directory s.directory d.delete_pending s.delete_pending
    d.basic s.basic d.content s.content

-- the first state is what outlives a restart of the second
pub record Keeps (d s : Server) : Type 0 where
  pub files : SnapshotFiles d s
  pub opens : OpensKept d s
  pub counts : CountsKept d s

-- ---- what a snapshot is made with

-- the bytes of each file that is there are told
abbrev pub TellsBytes : Server → (ℕ → FileBytes) → Type 0
TellsBytes s held = (f : ℕ) → exists_in s.entries f ≡ true → shown (held f) (length (s.content f)) (s.stored f) ≡ s.content f

-- the pair is among them
unfoldable pub has_pair : ℕ → ℕ → List (ℕ × ℕ) → Bool
has_pair c g [] = false
has_pair c g (p ∷ ps) = if p.0 == c then (if p.1 == g then true else has_pair c g ps) else has_pair c g ps

-- the guids of expired opens, as many as were counted
pub record ListsGuids (s : Server) (guids : List (ℕ × ℕ)) : Type 0 where
  pub each : (c g : ℕ) → s.expired_guids c g ≡ has_pair c g guids
  pub count : length guids ≡ s.expired_count

-- no number stands twice
unfoldable pub are_distinct : List ℕ → Bool
are_distinct [] = true
are_distinct (n ∷ ns) = not (has n ns) && are_distinct ns

-- the same files at the same paths, each once, in any order
pub record IsOrderOf (order entries : List Entry) : Type 0 where
  pub there : (f : ℕ) → exists_in order f ≡ exists_in entries f
  pub paths : (f : ℕ) → exists_in entries f ≡ true → path_in order f ≡ path_in entries f
  pub once : are_distinct (numbers order) ≡ true

-- a snapshot stands for the part of a state that outlives a restart
abbrev pub SnapshotKeeps : Server → (ℕ → FileBytes) → List (ℕ × ℕ) → Type 0
SnapshotKeeps s held guids = Fits s → FilesAscend s → TellsBytes s held → ListsGuids s guids → Keeps (unfolded (snapshot s held guids) s.stored) s

-- ---- the bytes of a file told whole

unfoldable pub parts_joined : List (List ℕ) → List ℕ
parts_joined [] = []
parts_joined (c ∷ cs) = c ++ parts_joined cs

-- bytes that were cut anywhere, one part behind the other from a place on
unfoldable pub patches_of : ℕ → List (List ℕ) → List Patch
patches_of at [] = []
patches_of at (c ∷ cs) = record { at = at; bytes = c } ∷ patches_of (at + length c) cs
