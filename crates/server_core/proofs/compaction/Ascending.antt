-- Records keep files in the order of their numbers.
use Rattle.std.proofs.Common.{◌≡◌, ℕ, ◌+◌, ◌==◌, nat_le, nat_lt, Bool, true, not, ◌&&◌, ◌||◌, List, [], ◌∷◌}
use Rattle.std.proofs.Common.{length, Option, Some, None}
use Rattle.spec_exchange.specs.Status.{success}
use Rattle.spec_exchange.specs.Commands.{Element, all_lock, all_unlock, deletes_on_close}
use Rattle.spec_exchange.specs.State.{Server, Entry, Record, NewOpen, EpochRecord, CreateRecord, WriteRecord, EndRecord, BasicRecord}
use Rattle.spec_exchange.specs.State.{DeleteRecord, RenameRecord, RemoveRecord, LockRecord, CloseRecord, VersionRecord, ExpireRecord}
use Rattle.spec_exchange.specs.Content.{is_empty}
use Rattle.spec_exchange.specs.CheckOpen.{is_slot, target_of, file_of}
use Rattle.spec_exchange.specs.Files.{root, exists, find, passes_room, remove_file}
use Rattle.spec_exchange.specs.Fold.{created_file, fold_from, is_file, lock_granted, lock_recorded, may_create, may_have_open, may_remove}
use Rattle.spec_exchange.specs.Fold.{may_rename, restore, shut_recorded, sweep, with_record}
use Rattle.spec_exchange.specs.Opens.{goes, pending_behind, without_gone}
use Rattle.spec_exchange.specs.Ranges.{RangeAnswer, Stands, Denied, change_ranges}
use Rattle.spec_exchange.specs.Step.{add_expired_guid, max_expired_guids}
use Rattle.law_server.specs.tables.Fits.{Fits, all_sound, is_sound}
use Rattle.law_server.proofs.tables.Folded.{recorded_keeps}
use Rattle.law_server.proofs.tables.Logic.{either, front_of, back_of}
use Rattle.law_records.specs.fold.Order.{FilesAscend}
use Rattle.law_records.proofs.fold.Numbers.{made_ascend, removed_ascend, renamed_ascend}

-- files stand in their order behind a change that leaves entries as they are
gone : (s : Server) (f : ℕ) → FilesAscend s → FilesAscend (without_gone s f)
gone s f a = either (λ (x : Server). FilesAscend x) (goes s f) (remove_file s f) s (λ _. removed_ascend s f a) (λ _. a)

swept : (s : Server) (es : List Entry) → FilesAscend s → FilesAscend (sweep s es)
unfolding sweep
swept s [] a = a
swept s (e ∷ es) a = swept (without_gone s e.file) es (gone s e.file a)

restored : (s : Server) (f action : ℕ) (opened : Option NewOpen) → FilesAscend s → FilesAscend (restore s f action opened)
restored s f action None a = a
restored s f action (Some n) a = a

created : (s : Server) (action f : ℕ) (path : List ℕ) (attributes : ℕ) (is_dir : Bool) (time : ℕ) → Fits s → FilesAscend s
    → FilesAscend (created_file s action f path attributes is_dir time)
created s action f path attributes is_dir time i a =
    either (λ (x : Server). FilesAscend x) (action == 2) _ _ (λ _. made_ascend s path is_dir attributes time i a)
    (λ _. either (λ (x : Server). FilesAscend x) (action == 1) _ _ (λ _. a) (λ _. a))

slot : (s : Server) (o index number status : ℕ) → FilesAscend s
    → FilesAscend (Rattle.spec_exchange.specs.Effects.keep_slot s o index number status)
slot s o index number status a = either (λ (x : Server). FilesAscend x) (is_slot index) _ s (λ _. a) (λ _. a)

granted : (s : Server) (o index number : ℕ) (A : RangeAnswer) → FilesAscend s → FilesAscend (lock_granted s o index number A)
granted s o index number (Denied status) a = a
granted s o index number (Stands ranges) a =
    slot (Rattle.spec_exchange.specs.Effects.set_ranges s (file_of s o) ranges) o index number success a

locked : (s : Server) (o index number status : ℕ) (elements : List Element) → FilesAscend s
    → FilesAscend (lock_recorded s o index number status elements)
locked s o index number status elements a =
    either (λ (x : Server). FilesAscend x) (not (all_lock elements || all_unlock elements)) s _ (λ _. a)
    (λ _. either (λ (x : Server). FilesAscend x) (status == success) _ _
    (λ _. granted s o index number (change_ranges (s.ranges (file_of s o)) o elements) a) (λ _. slot s o index number status a))

pending : (s : Server) (o : ℕ) → FilesAscend s → FilesAscend (pending_behind s o)
pending s o a = either (λ (x : Server). FilesAscend x) (deletes_on_close (s.opened o).options) _ s (λ _. a) (λ _. a)

expired : (s : Server) (client : ℕ) (g : Option ℕ) → FilesAscend s → FilesAscend (add_expired_guid s client g)
expired s client None a = a
expired s client (Some g) a = a

record_ascends : (s : Server) (r : Record) → Fits s → FilesAscend s → FilesAscend (with_record s r)
record_ascends s (EpochRecord number) i a =
    either (λ (x : Server). FilesAscend x) (number == s.epoch + 1) _ s (λ _. swept s s.entries a) (λ _. a)
record_ascends s (VersionRecord number) i a =
    either (λ (x : Server). FilesAscend x) ((number == 2) && (s.version == 1)) _ s (λ _. a) (λ _. a)
record_ascends s (CreateRecord origin action f path attributes is_dir time opened) i a =
    either (λ (x : Server). FilesAscend x) (may_create s action f path && may_have_open s opened) _ s
    (λ _. restored (created_file s action f path attributes is_dir time) f action opened
    (created s action f path attributes is_dir time i a)) (λ _. a)
record_ascends s (WriteRecord origin f at time bytes) i a =
    either (λ (x : Server). FilesAscend x) (is_file s f && (not (is_empty bytes) && not (passes_room s f (at + length bytes)))) _ s
    (λ _. a) (λ _. a)
record_ascends s (EndRecord origin f size time) i a =
    either (λ (x : Server). FilesAscend x) (is_file s f && not (passes_room s f size)) _ s (λ _. a) (λ _. a)
record_ascends s (BasicRecord origin f basic) i a = either (λ (x : Server). FilesAscend x) (exists s f) _ s (λ _. a) (λ _. a)
record_ascends s (DeleteRecord origin f flag) i a =
    either (λ (x : Server). FilesAscend x) (exists s f && not (f == root)) _ s (λ _. a) (λ _. a)
record_ascends s (RenameRecord origin f replaced path) i a =
    either (λ (x : Server). FilesAscend x) (may_rename s f replaced path) _ s
    (λ _. renamed_ascend s f (target_of f (find s path)) path a) (λ _. a)
record_ascends s (RemoveRecord origin f) i a =
    either (λ (x : Server). FilesAscend x) (may_remove s f) _ s (λ _. removed_ascend s f a) (λ _. a)
record_ascends s (LockRecord origin o index number status elements) i a =
    either (λ (x : Server). FilesAscend x) (s.standing o && nat_le index 64) _ s (λ _. locked s o index number status elements a) (λ _. a)
record_ascends s (CloseRecord origin o) i a = either (λ (x : Server). FilesAscend x) (s.standing o) _ s (λ _. pending s o a) (λ _. a)
record_ascends s (ExpireRecord origin o) i a =
    either (λ (x : Server). FilesAscend x) (s.standing o && nat_lt s.expired_count max_expired_guids) _ s
    (λ _. expired (shut_recorded s o) (s.opened o).client_guid (s.opened o).create_guid (pending s o a)) (λ _. a)

pub fold_ascends : (s : Server) (rs : List Record) → all_sound rs ≡ true → Fits s → FilesAscend s → FilesAscend (fold_from s rs)
unfolding fold_from all_sound
fold_ascends s [] ok i a = a
fold_ascends s (r ∷ rs) ok i a = fold_ascends (with_record s r) rs (back_of (is_sound r) (all_sound rs) ok)
    (recorded_keeps s r (front_of (is_sound r) (all_sound rs) ok) i) (record_ascends s r i a)
