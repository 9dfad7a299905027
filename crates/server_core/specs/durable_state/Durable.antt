-- The durable part of a state, and what a body of records makes of it.
use Rattle.std.specs.Prelude.{◌≡◌, ℕ, ◌&&◌, Bool, true, false, not, if◌then◌else◌, List, Option, Some, None}
use Rattle.std.specs.BTreeSet.{contains}
use Rattle.std.specs.Ordering.{nat_cmp}
use Rattle.spec_exchange.specs.State as model
use Rattle.spec_exchange.specs.CheckOpen.{file_of, target_of}
use Rattle.spec_exchange.specs.Effects.{set_ranges}
use Rattle.spec_exchange.specs.Fold.{may_create, created_file, same_target}
use Rattle.spec_exchange.specs.Opens.{file_has_open}
use Rattle.spec_exchange.specs.Ranges.{RangeAnswer, Stands, Denied}
use Rattle.spec_exchange.specs.Files.{exists, exists_in, find}
use Rattle.spec_exchange.specs.declared.values.Origin.{Origin}
use Rattle.store_opens.specs.open_table.Shown.{ShowsOpens}
use Rattle.store_files.specs.file_tree.Shown.{ShowsFiles}
use Rattle.law_records.specs.fold.Order.{FilesAscend}
use Rattle.law_snapshots.specs.snapshots.Pieces.{SnapshotPiece, with_piece}
use Rattle.law_snapshots.specs.snapshots.Taken.{takes_piece}
use Rattle.journal_bytes.specs.declared.piece_bytes.value.OpenFront.{OpenFront}
use Rattle.store_opens.specs.declared.open_table.row.OpenParts.{OpenParts}
use Rattle.server_core.specs.declared.durable_state.durable.Durable.{Durable}
use Rattle.server_core.specs.declared.durable_state.creates.Made.{Made}

-- Files stand in the order of their numbers, so that a sweep over numbers is one over entries.
pub record DurableShown (d : Durable) (s : model.Server) : Type 0 where
  pub files : ShowsFiles d.tree s
  pub opens : ShowsOpens d.opens s
  pub version_is : s.version ≡ d.version
  pub epoch_is : s.epoch ≡ d.epoch
  pub pending : (f : ℕ) → exists_in s.entries f ≡ true → s.delete_pending f ≡ true → contains nat_cmp d.pending f ≡ true
  pub ascend : FilesAscend s

-- ---- parts of a record

-- the record of a create of this file
abbrev pub create_record : Origin → Made → Option model.NewOpen → model.Record
create_record origin made new = model.CreateRecord origin made.action made.file made.path.now made.attributes made.directory made.time new

abbrev pub may_be_made : model.Server → Made → Bool
may_be_made s made = may_create s made.action made.file made.path.now

abbrev pub file_behind : model.Server → Made → Bool → model.Server
file_behind s made may = if may then created_file s made.action made.file made.path.now made.attributes made.directory made.time else s

-- nothing is open of what a rename takes the place of
unfoldable pub is_unopened : model.Server → Option ℕ → Bool
is_unopened s None = true
is_unopened s (Some t) = not (file_has_open s t)

-- the file is there, and this is what its rename takes the place of
unfoldable pub durable_may_take : model.Server → ℕ → ℕ → List ℕ → Bool
durable_may_take s f replaced path = exists s f && (same_target (target_of f (find s path)) replaced
    && is_unopened s (target_of f (find s path)))

-- ranges behind a lock or unlock that is granted
abbrev pub is_granted : RangeAnswer → Bool
is_granted (Stands ranges) = true
is_granted (Denied status) = false

abbrev pub ranges_behind : model.Server → ℕ → RangeAnswer → model.Server
ranges_behind s o (Stands ranges) = set_ranges s (file_of s o) ranges
ranges_behind s o (Denied status) = s

-- ---- pieces of a snapshot

-- whether the piece is one that may come there, and if so what it makes of the state
abbrev pub TookPiece : Durable → model.Server → SnapshotPiece → Bool → Type 0
TookPiece d s p b = (b ≡ takes_piece s p) × (b ≡ true → DurableShown d (with_piece s p))

-- an open that has no session yet
abbrev pub front_parts : OpenFront → OpenParts
front_parts o = record {
  file = o.file;
  access = o.access;
  share = o.share;
  options = o.options;
  action = o.action;
  persistent = true;
  client = o.client;
  guid = Some o.guid;
  session = None;
  tree = 0;
  sequence = 0;
  timeout = o.timeout;
}
