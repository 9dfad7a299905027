-- What the journal's records stand for (this project's): a state folded from them, and the part of a state that outlives a
-- restart, of opens the persistent ones (MS-SMB2 3.3.1.10, Open.IsPersistent).
use Rattle.std.specs.Prelude.{◌≡◌, ℕ, ◌+◌, ◌/◌, ◌%◌, ◌==◌, nat_lt, nat_le, max, Bool, true, false, not, ◌&&◌, ◌||◌}
use Rattle.std.specs.Prelude.{if◌then◌else◌, List, [], ◌∷◌, ◌++◌, length, Option, Some, None, is_some}
use Rattle.spec_exchange.specs.Status.{success}
use Rattle.spec_exchange.specs.Texts.{is_path, is_below}
use Rattle.spec_exchange.specs.Content.{written, ended, is_empty}
use Rattle.spec_exchange.specs.Commands.{Basic, Element, all_lock, all_unlock}
use Rattle.spec_exchange.specs.State.{Server, Address, Entry, Open, Range, Record, NewOpen, EpochRecord, CreateRecord}
use Rattle.spec_exchange.specs.State.{WriteRecord, EndRecord, BasicRecord, DeleteRecord, RenameRecord, RemoveRecord}
use Rattle.spec_exchange.specs.State.{LockRecord, CloseRecord, VersionRecord, ExpireRecord}
use Rattle.spec_exchange.specs.Records.{lower_limit}
use Rattle.spec_exchange.specs.Files.{root, find, path_of, exists, is_directory, has_parent, is_full_directory}
use Rattle.spec_exchange.specs.Files.{passes_room, make_file, set_content, empty_file, set_delete_pending, store_basic}
use Rattle.spec_exchange.specs.Files.{remove_file, rename_file}
use Rattle.spec_exchange.specs.Ranges.{RangeAnswer, Stands, Denied, change_ranges}
use Rattle.spec_exchange.specs.Opens.{max_ids, add_open, drop_open, pending_behind, file_has_open, without_gone}
use Rattle.spec_exchange.specs.CheckCreate.{max_opens, max_files, last_file}
use Rattle.spec_exchange.specs.CheckOpen.{target_of, file_of}
use Rattle.spec_exchange.specs.Effects.{keep_slot, set_ranges}
use Rattle.spec_exchange.specs.Records.{origin_at, entry_bytes}
use Rattle.spec_exchange.specs.Step.{add_expired_guid, max_expired_guids}

abbrev pub no_times : Basic
no_times = record { created = 0; accessed = 0; written = 0; changed = 0; attributes = 0 }

abbrev pub no_address : Address
no_address = record { ip = 0; port = 0 }

abbrev pub no_open : Open
no_open = record {
  file = 0;
  access = 0;
  share = 0;
  options = 0;
  action = 0;
  persistent = false;
  client_guid = 0;
  create_guid = None;
  user = [];
  timeout = 0;
}

abbrev pub full_room : ℕ
full_room = 1125899906842624

-- the state of no records
abbrev pub nothing_yet : Server
nothing_yet =
    record {
      share = [];
      room = full_room;
      encrypts = false;
      address = no_address;
      version = 1;
      epoch = 0;
      journal = 0;
      limit = lower_limit;
      entries = [];
      next_file = 1;
      directory = λ f. false;
      delete_pending = λ f. false;
      basic = λ f. no_times;
      content = λ f. [];
      stored = λ f. [];
      ranges = λ f. [];
      opens = [];
      standing = λ o. false;
      open_ids_given = 0;
      opened = λ o. no_open;
      session_of_open = λ o. None;
      tree_of_open = λ o. 0;
      sequence = λ o. 0;
      deadline = λ o. None;
      enumeration_location = λ o. None;
      current_byte_offset = λ o. 0;
      lock_sequences = λ o i. None;
      by_guid = λ c g. None;
      expired_guids = λ c g. false;
      expired_count = 0;
      present = λ s. false;
      sessions = 0;
      session_ids_given = 0;
      user = λ s. [];
      client = λ s. 0;
      cipher = λ s. 0;
      signing = λ s. 0;
      channel_numbers_drawn = λ s. 0;
      trees = λ s. [];
      next_tree = λ s. 0;
      closed = λ s g. false;
      refused = λ s g. None;
      guids = λ s. 0;
      connections = [];
      session_on = λ k. None;
      making = λ k. None;
    }

-- ---- each record, and where it changes nothing

-- a new epoch removes, in order of their numbers, the delete pending files that have no open
unfoldable pub sweep : Server → List Entry → Server
sweep s [] = s
sweep s (e ∷ es) = sweep (without_gone s e.file) es

abbrev pub begin_epoch : Server → ℕ → Server
begin_epoch s number = if number == s.epoch + 1 then record (sweep s s.entries) {
  epoch = number;
  open_ids_given = 0;
  session_ids_given = 0;
} else s

abbrev pub set_version : Server → ℕ → Server
set_version s number = if (number == 2) && (s.version == 1) then record s { version = 2 } else s

-- the next number, a free path in a directory, and room in the count
unfoldable pub may_make : Server → ℕ → List ℕ → Bool
may_make s f path = (f == s.next_file)
    && (is_path path && (not (is_some (find s path))
    && (has_parent s path && (nat_lt (length s.entries) max_files && nat_le s.next_file last_file))))

-- an id of this epoch that isn't live, a guid that no live open of the client has, and room in the count
unfoldable pub may_restore : Server → NewOpen → Bool
may_restore s n = (n.id / 0x1_0000_0000 == s.epoch)
    && (nat_lt 0 (n.id % 0x1_0000_0000)
    && (nat_lt s.open_ids_given max_ids
    && (not (s.standing n.id) && (not (is_some (s.by_guid n.client_guid n.create_guid)) && nat_lt (length s.opens)
    max_opens))))

unfoldable pub may_have_open : Server → Option NewOpen → Bool
may_have_open s None = true
may_have_open s (Some n) = may_restore s n

unfoldable pub may_create : Server → ℕ → ℕ → List ℕ → Bool
may_create s action f path = if action == 2 then may_make s f path else if action == 1 then exists s f else if nat_lt
    action 4 then exists s f && not (is_directory s f) else false

abbrev pub restored_row : NewOpen → ℕ → ℕ → Open
restored_row n f action =
    record {
      file = f;
      access = n.access;
      share = n.share;
      options = n.options;
      action = action;
      persistent = true;
      client_guid = n.client_guid;
      create_guid = Some n.create_guid;
      user = n.user;
      timeout = n.timeout;
    }

abbrev pub restore : Server → ℕ → ℕ → Option NewOpen → Server
restore s f action None = s
restore s f action (Some n) = record (add_open s n.id (restored_row n f action) None 0) {
  open_ids_given = max s.open_ids_given (n.id % 0x1_0000_0000);
}

-- with the attributes that the record tells: the file's own, or, in a journal of before, those that the request asked for
abbrev pub created_file : Server → ℕ → ℕ → List ℕ → ℕ → Bool → ℕ → Server
created_file s action f path attributes is_dir time = if action == 2 then make_file s path is_dir attributes time else
    if action == 1 then s else empty_file s f attributes time

-- where the file is there and no directory
unfoldable pub is_file : Server → ℕ → Bool
is_file s f = exists s f && not (is_directory s f)

unfoldable pub same_target : Option ℕ → ℕ → Bool
same_target None replaced = replaced == 0
same_target (Some t) replaced = t == replaced

unfoldable pub may_replace : Server → Option ℕ → Bool
may_replace s None = true
may_replace s (Some t) = not (is_directory s t) && not (file_has_open s t)

unfoldable pub may_rename : Server → ℕ → ℕ → List ℕ → Bool
may_rename s f replaced path =
    exists s f && (not (f == root)
    && (is_path path && (has_parent s path && (not (is_directory s f && is_below (path_of s f) path)
    && (same_target (target_of f (find s path)) replaced && may_replace s (target_of f (find s path)))))))

unfoldable pub may_remove : Server → ℕ → Bool
may_remove s f = exists s f && (not (f == root) && (not (file_has_open s f) && not (is_full_directory s f)))

abbrev pub lock_granted : Server → ℕ → ℕ → ℕ → RangeAnswer → Server
lock_granted s o index number (Denied status) = s
lock_granted s o index number (Stands ranges) = keep_slot (set_ranges s (file_of s o) ranges) o index number success

abbrev pub lock_recorded : Server → ℕ → ℕ → ℕ → ℕ → List Element → Server
lock_recorded s o index number status elements =
    if not (all_lock elements || all_unlock elements) then s
    else if status == success then lock_granted s o index number (change_ranges (s.ranges (file_of s o)) o elements)
    else keep_slot s o index number status

abbrev pub shut_recorded : Server → ℕ → Server
shut_recorded s o = drop_open (pending_behind s o) o

abbrev pub with_record : Server → Record → Server
with_record s (EpochRecord number) = begin_epoch s number
with_record s (VersionRecord number) = set_version s number
with_record s (CreateRecord origin action f path attributes is_dir time opened) =
    if may_create s action f path && may_have_open s opened then restore (created_file s action f path attributes is_dir
    time) f action opened else s
with_record s (WriteRecord origin f at time bytes) = if is_file s f
    && (not (is_empty bytes) && not (passes_room s f (at + length bytes))) then set_content s f
    (written at bytes (s.content f)) time else s
with_record s (EndRecord origin f size time) = if is_file s f && not (passes_room s f size) then set_content s f
    (ended size (s.content f)) time else s
with_record s (BasicRecord origin f basic) = if exists s f then store_basic s f basic else s
with_record s (DeleteRecord origin f flag) = if exists s f && not (f == root) then set_delete_pending s f flag else s
with_record s (RenameRecord origin f replaced path) = if may_rename s f replaced path then rename_file s f
    (target_of f (find s path)) path else s
with_record s (RemoveRecord origin f) = if may_remove s f then remove_file s f else s
with_record s (LockRecord origin o index number status elements) = if s.standing o && nat_le index 64 then lock_recorded
    s o index number status elements else s
with_record s (CloseRecord origin o) = if s.standing o then shut_recorded s o else s
with_record s (ExpireRecord origin o) = if s.standing o && nat_lt s.expired_count max_expired_guids then
    add_expired_guid (shut_recorded s o) (s.opened o).client_guid (s.opened o).create_guid else s

unfoldable pub fold_from : Server → List Record → Server
fold_from s [] = s
fold_from s (r ∷ rs) = fold_from (with_record s r) rs

-- the fold: version, epoch, files, persistent opens with their ranges, slots and timeouts, and expired guids
abbrev pub fold : List Record → Server
fold rs = fold_from nothing_yet rs

-- ---- restart

-- what a server is told when it starts, beside its disk
pub record Configuration : Type 0 where
  pub share : List ℕ
  pub room : ℕ
  pub encrypts : Bool
  pub address : Address

-- an Epoch record is written, and in a journal of version 1 the Version record too, in the same body
abbrev pub epoch_records : Server → List Record
epoch_records d = if d.version == 1 then VersionRecord 2 ∷ EpochRecord (d.epoch + 1) ∷ [] else EpochRecord (d.epoch + 1) ∷ []

-- what a new epoch leaves delete pending though it has no open: a directory in which something stood at its turn
unfoldable pub is_left_pending : Server → ℕ → Bool
is_left_pending s f = s.delete_pending f && not (file_has_open s f)

-- such a directory can't go, so that it loses its mark; else no CREATE could open it any more
unfoldable pub mark_records : Server → ℕ → List Record
mark_records s f = if is_left_pending s f then DeleteRecord (origin_at 0) f false ∷ [] else []

unfoldable pub unmark_records : Server → List Entry → List Record
unmark_records s [] = []
unmark_records s (e ∷ es) = mark_records s e.file ++ unmark_records s es

-- what a start writes, in one body: the epoch, and behind it the marks that it clears
abbrev pub opening_records : Server → List Record
opening_records d = epoch_records d ++ unmark_records (fold_from d (epoch_records d)) (fold_from d (epoch_records d)).entries

-- what a recovery adds to the records of its disk
abbrev pub recovery_records : List Record → List Record
recovery_records rs = opening_records (fold rs)

-- recovery: nothing but the configuration, the disk's bytes and its records decide where a server stands
abbrev pub recovered : Configuration → ℕ → List Record → Server
recovered z bytes rs = record (fold (rs ++ recovery_records rs)) {
  share = z.share;
  room = z.room;
  encrypts = z.encrypts;
  address = z.address;
  journal = bytes + entry_bytes (recovery_records rs);
}

-- behind a server that ran under the same configuration, on the disk that it left
abbrev pub configuration_of : Server → Configuration
configuration_of s = record { share = s.share; room = s.room; encrypts = s.encrypts; address = s.address }

abbrev pub recovered_from : Server → List Record → Server
recovered_from s rs = recovered (configuration_of s) s.journal rs

-- ---- the durable part of a state: what a fold of all its records gives, the counters of the epoch aside

unfoldable pub persistent_in : (ℕ → Open) → List ℕ → List ℕ
persistent_in opened [] = []
persistent_in opened (o ∷ os) = if (opened o).persistent then o ∷ persistent_in opened os else persistent_in opened os

abbrev pub stays : Server → ℕ → Bool
stays s o = s.standing o && (s.opened o).persistent

abbrev pub stays_by_guid : Server → Option ℕ → Option ℕ
stays_by_guid s None = None
stays_by_guid s (Some o) = if stays s o then Some o else None

unfoldable pub ranges_that_stay : Server → List Range → List Range
ranges_that_stay s [] = []
ranges_that_stay s (r ∷ rs) = if stays s r.owner then r ∷ ranges_that_stay s rs else ranges_that_stay s rs

abbrev pub durable : Server → Server
durable s =
    record nothing_yet {
      version = s.version;
      epoch = s.epoch;
      entries = s.entries;
      next_file = s.next_file;
      directory = s.directory;
      delete_pending = s.delete_pending;
      basic = s.basic;
      content = s.content;
      ranges = λ f. ranges_that_stay s (s.ranges f);
      opens = persistent_in s.opened s.opens;
      standing = λ o. stays s o;
      opened = λ o. if stays s o then s.opened o else no_open;
      lock_sequences = λ o i. if stays s o then s.lock_sequences o i else None;
      by_guid = λ c g. stays_by_guid s (s.by_guid c g);
      expired_guids = s.expired_guids;
      expired_count = s.expired_count;
    }

-- the journal stands for the state
abbrev pub StandsFor : List Record → Server → Type 0
StandsFor rs s = durable (fold rs) ≡ durable s
