-- What the journal's records say of sessions: a fold of them stands in the server's epoch, has no session, and its opens
-- are this client's.
use Rattle.std.proofs.Common.{◌≡◌, ℕ, ◌+◌, ◌==◌, nat_le, nat_lt, Bool, true, false, not, ◌&&◌, ◌||◌, if◌then◌else◌}
use Rattle.std.proofs.Common.{List, [], ◌∷◌, ◌++◌, refl, arith, sym, subst, ◌∙◌, ap, Option, Some, None, length}
use Rattle.spec_exchange.specs.Table.{put, put2}
use Rattle.spec_exchange.specs.Status.{success}
use Rattle.spec_exchange.specs.Content.{written, ended, is_empty}
use Rattle.spec_exchange.specs.Commands.{Element, all_lock, all_unlock, deletes_on_close}
use Rattle.spec_exchange.specs.State.{Server, Entry, Open, Origin, Record, NewOpen, EpochRecord, CreateRecord, WriteRecord}
use Rattle.spec_exchange.specs.State.{EndRecord, BasicRecord, DeleteRecord, RenameRecord, RemoveRecord, LockRecord}
use Rattle.spec_exchange.specs.State.{CloseRecord, VersionRecord, ExpireRecord}
use Rattle.spec_exchange.specs.Files.{root, find, exists, passes_room, make_file, set_content, empty_file}
use Rattle.spec_exchange.specs.Files.{set_delete_pending, store_basic, remove_file, rename_file}
use Rattle.spec_exchange.specs.Ranges.{RangeAnswer, Stands, Denied, change_ranges}
use Rattle.spec_exchange.specs.Opens.{pending_behind, without_gone, goes}
use Rattle.spec_exchange.specs.CheckOpen.{target_of, file_of, is_slot}
use Rattle.spec_exchange.specs.Effects.{keep_slot, set_ranges}
use Rattle.spec_exchange.specs.Step.{add_expired_guid, max_expired_guids}
use Rattle.spec_exchange.specs.Fold.{fold, fold_from, with_record, nothing_yet, begin_epoch, set_version, sweep}
use Rattle.spec_exchange.specs.Fold.{may_create, may_have_open, restore, restored_row, created_file, is_file}
use Rattle.spec_exchange.specs.Fold.{may_rename, may_remove, lock_recorded, lock_granted, shut_recorded}
use Rattle.spec_exchange.specs.Fold.{recovery_records, opening_records, epoch_records, is_left_pending, mark_records, unmark_records}
use Rattle.spec_exchange.specs.Records.{origin_at}
use Rattle.law_server.proofs.tables.Logic.{either}
use Rattle.law_sessions.proofs.sessions.Columns.{Stays, stays_same, stays_so, stays_pending, stays_dropped, stays_gone}
use Rattle.law_sessions.proofs.sessions.Columns.{stays_kept, stays_ranged, stays_noted}

-- ---- records that a step owes: no epoch begins, and an open is this client's

abbrev pub OwnOpen : ℕ → List ℕ → Option NewOpen → Type 0
OwnOpen guid user None = Unit {0}
OwnOpen guid user (Some n) = n.client_guid ≡ guid × n.user ≡ user

abbrev pub OwnRecord : ℕ → List ℕ → Record → Type 0
OwnRecord guid user (EpochRecord number) = ⊥
OwnRecord guid user (CreateRecord origin action file path attributes is_dir time opened) = OwnOpen guid user opened
OwnRecord guid user _ = Unit {0}

unfoldable pub Clean : ℕ → List ℕ → List Record → Type 0
Clean guid user [] = Unit {0}
Clean guid user (r ∷ rs) = OwnRecord guid user r × Clean guid user rs

pub clean_more : (guid : ℕ) (user : List ℕ) (xs ys : List Record) → Clean guid user xs → Clean guid user ys → Clean guid user (xs ++ ys)
unfolding Clean
clean_more guid user [] ys a b = b
clean_more guid user (x ∷ xs) ys a b = (a.0, clean_more guid user xs ys a.1 b)

-- ---- the fold

pub record Folds (guid : ℕ) (user : List ℕ) (number : ℕ) (d : Server) : Type 0 where
  pub epoch : d.epoch ≡ number
  pub present : (x : ℕ) → d.present x ≡ false
  pub making : (k : ℕ) → d.making k ≡ None
  pub opens : (o : ℕ) → d.standing o ≡ true → (d.opened o).user ≡ user × (d.opened o).client_guid ≡ guid
  pub attached : (o : ℕ) → d.session_of_open o ≡ None

-- no open is attached where none was
abbrev Loose : Server → Server → Type 0
Loose d t = (o : ℕ) → d.session_of_open o ≡ None → t.session_of_open o ≡ None

put_none : (f : ℕ → Option ℕ) (o p : ℕ) → f p ≡ None → put f o None p ≡ None
put_none f o p e = grind arith

loose_pending : (d : Server) (o : ℕ) → Loose d (pending_behind d o)
loose_pending d o = either (λ t. Loose d t) (deletes_on_close (d.opened o).options) (set_delete_pending d (d.opened o).file true) d
    (λ _ p e. e) (λ _ p e. e)

loose_shut : (d : Server) (o : ℕ) → Loose d (shut_recorded d o)
loose_shut d o p e = put_none (pending_behind d o).session_of_open o p (loose_pending d o p e)

loose_gone : (d : Server) (f : ℕ) → Loose d (without_gone d f)
loose_gone d f = either (λ t. Loose d t) (goes d f) (remove_file d f) d (λ _ p e. e) (λ _ p e. e)

loose_swept : (d : Server) (es : List Entry) → Loose d (sweep d es)
unfolding sweep
loose_swept d [] p e = e
loose_swept d (x ∷ es) p e = loose_swept (without_gone d x.file) es p (loose_gone d x.file p e)

loose_version : (d : Server) (number : ℕ) → Loose d (set_version d number)
loose_version d number = either (λ t. Loose d t) ((number == 2) && (d.version == 1)) (record d { version = 2 }) d (λ _ p e. e) (λ _ p e. e)

loose_created : (d : Server) (action f : ℕ) (path : List ℕ) (attributes : ℕ) (is_dir : Bool) (time : ℕ)
    → Loose d (created_file d action f path attributes is_dir time)
loose_created d action f path attributes is_dir time =
    either (λ t. Loose d t) (action == 2) (make_file d path is_dir attributes time) _ (λ _ p e. e)
    (λ _. either (λ t. Loose d t) (action == 1) d (empty_file d f attributes time) (λ _ p e. e) (λ _ p e. e))

loose_kept : (d : Server) (o index number status : ℕ) → Loose d (keep_slot d o index number status)
loose_kept d o index number status = either (λ t. Loose d t) (is_slot index) (record d {
  lock_sequences = put2 d.lock_sequences o index (Some (record { number = number; status = status }));
}) d (λ _ p e. e) (λ _ p e. e)

loose_granted : (d : Server) (o index number : ℕ) (r : RangeAnswer) → Loose d (lock_granted d o index number r)
loose_granted d o index number (Denied status) p e = e
loose_granted d o index number (Stands ranges) p e = loose_kept (set_ranges d (file_of d o) ranges) o index number success p e

loose_locked : (d : Server) (o index number status : ℕ) (elements : List Element) → Loose d (lock_recorded d o index number status elements)
loose_locked d o index number status elements =
    either (λ t. Loose d t) (not (all_lock elements || all_unlock elements)) d _ (λ _ p e. e)
    (λ _. either (λ t. Loose d t) (status == success)
    (lock_granted d o index number (change_ranges (d.ranges (file_of d o)) o elements))
    (keep_slot d o index number status)
    (λ _. loose_granted d o index number (change_ranges (d.ranges (file_of d o)) o elements)) (λ _. loose_kept d o index number status))

loose_noted : (d : Server) (client : ℕ) (guid : Option ℕ) → Loose d (add_expired_guid d client guid)
loose_noted d client None p e = e
loose_noted d client (Some g) p e = e

fold_stays : (guid : ℕ) (user : List ℕ) (epoch : ℕ) (d t : Server) → Stays d t → Loose d t → Folds guid user epoch d → Folds guid user epoch t
fold_stays guid user epoch d t q l f =
    record {
      epoch = q.epoch ∙ f.epoch;
      present = λ x. ap (λ g. g x) q.present ∙ f.present x;
      making = λ k. ap (λ g. g k) q.making ∙ f.making k;
      opens = λ o h. subst (λ g. (g o).user ≡ user × (g o).client_guid ≡ guid) (sym q.opened) (f.opens o (q.standing o h));
      attached = λ o. l o (f.attached o);
    }

stays_version : (d : Server) (number : ℕ) → Stays d (set_version d number)
stays_version d number =
    either (λ t. Stays d t) ((number == 2) && (d.version == 1)) (record d { version = 2 }) d
    (λ _. record {
      present = refl;
      user = refl;
      trees = refl;
      next_tree = refl;
      epoch = refl;
      open_ids_given = refl;
      session_ids_given = refl;
      making = refl;
      session_on = refl;
      opened = refl;
      standing = λ q e. e;
    })
    (λ _. stays_same d)

stays_created : (d : Server) (action f : ℕ) (path : List ℕ) (attributes : ℕ) (is_dir : Bool) (time : ℕ)
    → Stays d (created_file d action f path attributes is_dir time)
stays_created d action f path attributes is_dir time =
    let P : Server → Type 0 = λ t. Stays d t in
    either P (action == 2) (make_file d path is_dir attributes time) _
    (λ _. record {
      present = refl;
      user = refl;
      trees = refl;
      next_tree = refl;
      epoch = refl;
      open_ids_given = refl;
      session_ids_given = refl;
      making = refl;
      session_on = refl;
      opened = refl;
      standing = λ q e. e;
    })
    (λ _. either P (action == 1) d (empty_file d f attributes time) (λ _. stays_same d)
    (λ _. record {
      present = refl;
      user = refl;
      trees = refl;
      next_tree = refl;
      epoch = refl;
      open_ids_given = refl;
      session_ids_given = refl;
      making = refl;
      session_on = refl;
      opened = refl;
      standing = λ q e. e;
    }))

stays_shut : (d : Server) (o : ℕ) → Stays d (shut_recorded d o)
stays_shut d o = stays_so d (pending_behind d o) (shut_recorded d o) (stays_pending d o) (stays_dropped (pending_behind d o) o)

stays_granted : (d : Server) (o index number : ℕ) (r : RangeAnswer) → Stays d (lock_granted d o index number r)
stays_granted d o index number (Denied status) = stays_same d
stays_granted d o index number (Stands ranges) =
    let a = set_ranges d (file_of d o) ranges in stays_so d a (keep_slot a o index number success)
    (stays_ranged d (file_of d o) ranges) (stays_kept a o index number success)

stays_locked : (d : Server) (o index number status : ℕ) (elements : List Element) → Stays d (lock_recorded d o index number status elements)
stays_locked d o index number status elements =
    let P : Server → Type 0 = λ t. Stays d t in
    either P (not (all_lock elements || all_unlock elements)) d _ (λ _. stays_same d)
    (λ _. either P (status == success)
    (lock_granted d o index number (change_ranges (d.ranges (file_of d o)) o elements))
    (keep_slot d o index number status)
    (λ _. stays_granted d o index number (change_ranges (d.ranges (file_of d o)) o elements)) (λ _. stays_kept d o index number status))

-- an open that a record restores
restored_open : (standing : ℕ → Bool) (opened : ℕ → Open) (i : ℕ) (row : Open) (guid : ℕ) (user : List ℕ)
    → ((o : ℕ) → standing o ≡ true → (opened o).user ≡ user × (opened o).client_guid ≡ guid) → row.user ≡ user
    → row.client_guid ≡ guid
    → (o : ℕ) → put standing i true o ≡ true → (put opened i row o).user ≡ user × (put opened i row o).client_guid ≡ guid
restored_open standing opened i row guid user f a b o h = let old = f o in (grind arith, grind arith)

restored : (guid : ℕ) (user : List ℕ) (epoch : ℕ) (d : Server) (f action : ℕ) (opened : Option NewOpen)
    → OwnOpen guid user opened → Folds guid user epoch d → Folds guid user epoch (restore d f action opened)
restored guid user epoch d f action None own q = q
restored guid user epoch d f action (Some n) own q =
    record {
      epoch = q.epoch;
      present = q.present;
      making = q.making;
      opens = restored_open d.standing d.opened n.id (restored_row n f action) guid user q.opens own.1 own.0;
      attached = λ o. put_none d.session_of_open n.id o (q.attached o);
    }

-- a record that changes nothing of sessions and opens but what leaves
simply : (guid : ℕ) (user : List ℕ) (epoch : ℕ) (d t : Server) (b : Bool) → Stays d t → Loose d t → Folds guid user epoch d
    → Folds guid user epoch (if b then t else d)
simply guid user epoch d t b q l f = either (λ x. Folds guid user epoch x) b t d (λ _. fold_stays guid user epoch d t q l f) (λ _. f)

one_record : (guid : ℕ) (user : List ℕ) (epoch : ℕ) (d : Server) (r : Record) → OwnRecord guid user r
    → Folds guid user epoch d → Folds guid user epoch (with_record d r)
one_record guid user epoch d (EpochRecord number) own f = absurd own
one_record guid user epoch d (VersionRecord number) own f = fold_stays guid user epoch d (set_version d number) (stays_version d number) (loose_version d number) f
one_record guid user epoch d (CreateRecord origin action file path attributes is_dir time opened) own f =
    let t = created_file d action file path attributes is_dir time in
    either (λ x. Folds guid user epoch x) (may_create d action file path && may_have_open d opened) (restore t file action opened) d
    (λ _. restored guid user epoch t file action opened own
    (fold_stays guid user epoch d t (stays_created d action file path attributes is_dir time)
    (loose_created d action file path attributes is_dir time) f)) (λ _. f)
one_record guid user epoch d (WriteRecord origin file at time bytes) own f =
    simply guid user epoch d (set_content d file (written at bytes (d.content file)) time)
    (is_file d file && (not (is_empty bytes) && not (passes_room d file (at + length bytes))))
    (record {
      present = refl;
      user = refl;
      trees = refl;
      next_tree = refl;
      epoch = refl;
      open_ids_given = refl;
      session_ids_given = refl;
      making = refl;
      session_on = refl;
      opened = refl;
      standing = λ q e. e;
    }) (λ p e. e) f
one_record guid user epoch d (EndRecord origin file size time) own f =
    simply guid user epoch d (set_content d file (ended size (d.content file)) time) (is_file d file && not (passes_room d file size))
    (record {
      present = refl;
      user = refl;
      trees = refl;
      next_tree = refl;
      epoch = refl;
      open_ids_given = refl;
      session_ids_given = refl;
      making = refl;
      session_on = refl;
      opened = refl;
      standing = λ q e. e;
    }) (λ p e. e) f
one_record guid user epoch d (BasicRecord origin file basic) own f =
    simply guid user epoch d (store_basic d file basic) (exists d file)
    (record {
      present = refl;
      user = refl;
      trees = refl;
      next_tree = refl;
      epoch = refl;
      open_ids_given = refl;
      session_ids_given = refl;
      making = refl;
      session_on = refl;
      opened = refl;
      standing = λ q e. e;
    }) (λ p e. e) f
one_record guid user epoch d (DeleteRecord origin file flag) own f =
    simply guid user epoch d (set_delete_pending d file flag) (exists d file && not (file == root))
    (record {
      present = refl;
      user = refl;
      trees = refl;
      next_tree = refl;
      epoch = refl;
      open_ids_given = refl;
      session_ids_given = refl;
      making = refl;
      session_on = refl;
      opened = refl;
      standing = λ q e. e;
    }) (λ p e. e) f
one_record guid user epoch d (RenameRecord origin file replaced path) own f =
    simply guid user epoch d (rename_file d file (target_of file (find d path)) path) (may_rename d file replaced path)
    (record {
      present = refl;
      user = refl;
      trees = refl;
      next_tree = refl;
      epoch = refl;
      open_ids_given = refl;
      session_ids_given = refl;
      making = refl;
      session_on = refl;
      opened = refl;
      standing = λ q e. e;
    }) (λ p e. e) f
one_record guid user epoch d (RemoveRecord origin file) own f =
    simply guid user epoch d (remove_file d file) (may_remove d file)
    (record {
      present = refl;
      user = refl;
      trees = refl;
      next_tree = refl;
      epoch = refl;
      open_ids_given = refl;
      session_ids_given = refl;
      making = refl;
      session_on = refl;
      opened = refl;
      standing = λ q e. e;
    }) (λ p e. e) f
one_record guid user epoch d (LockRecord origin o index number status elements) own f =
    simply guid user epoch d (lock_recorded d o index number status elements) (d.standing o && nat_le index 64)
    (stays_locked d o index number status elements) (loose_locked d o index number status elements) f
one_record guid user epoch d (CloseRecord origin o) own f = simply guid user epoch d (shut_recorded d o) (d.standing o) (stays_shut d o) (loose_shut d o) f
one_record guid user epoch d (ExpireRecord origin o) own f =
    simply guid user epoch d (add_expired_guid (shut_recorded d o) (d.opened o).client_guid (d.opened o).create_guid)
    (d.standing o && nat_lt d.expired_count max_expired_guids)
    (stays_so d (shut_recorded d o) _ (stays_shut d o) (stays_noted (shut_recorded d o) (d.opened o).client_guid
    (d.opened o).create_guid))
    (λ p e. loose_noted (shut_recorded d o) (d.opened o).client_guid (d.opened o).create_guid p (loose_shut d o p e)) f

all_records : (guid : ℕ) (user : List ℕ) (epoch : ℕ) (d : Server) (rs : List Record) → Clean guid user rs
    → Folds guid user epoch d → Folds guid user epoch (fold_from d rs)
unfolding fold_from Clean
all_records guid user epoch d [] own f = f
all_records guid user epoch d (r ∷ rs) own f = all_records guid user epoch (with_record d r) rs own.1
    (one_record guid user epoch d r own.0 f)

pub fold_more : (d : Server) (xs ys : List Record) → fold_from d (xs ++ ys) ≡ fold_from (fold_from d xs) ys
unfolding fold_from
fold_more d [] ys = refl
fold_more d (x ∷ xs) ys = fold_more (with_record d x) xs ys

-- the records of a step follow
pub folds_more : (guid : ℕ) (user : List ℕ) (epoch : ℕ) (rs more : List Record) → Clean guid user more
    → Folds guid user epoch (fold rs) → Folds guid user epoch (fold (rs ++ more))
folds_more guid user epoch rs more own f = subst (λ d. Folds guid user epoch d) (sym (fold_more nothing_yet rs more))
    (all_records guid user epoch (fold rs) more own f)

-- ---- a restart

stays_swept : (d : Server) (es : List Entry) → Stays d (sweep d es)
unfolding sweep
stays_swept d [] = stays_same d
stays_swept d (e ∷ es) = stays_so d (without_gone d e.file) (sweep (without_gone d e.file) es) (stays_gone d e.file)
    (stays_swept (without_gone d e.file) es)

-- a fold in a new epoch
pub record Anew (guid : ℕ) (user : List ℕ) (number : ℕ) (d : Server) : Type 0 where
  pub folds : Folds guid user number d
  pub session_ids_given : d.session_ids_given ≡ 0

begins_anew : (guid : ℕ) (user : List ℕ) (epoch : ℕ) (d : Server) → Folds guid user epoch d → Anew guid user (epoch + 1)
    (begin_epoch d (epoch + 1))
begins_anew guid user epoch d f =
    either (λ t. Anew guid user (epoch + 1) t) (epoch + 1 == d.epoch + 1) (record (sweep d d.entries) {
      epoch = epoch + 1;
      open_ids_given = 0;
      session_ids_given = 0;
    }) d
    (λ _. let q = fold_stays guid user epoch d (sweep d d.entries) (stays_swept d d.entries) (loose_swept d d.entries) f in record {
      folds = record { epoch = refl; present = q.present; making = q.making; opens = q.opens; attached = q.attached };
      session_ids_given = refl;
    })
    (λ n. absurd (no_other epoch d.epoch f.epoch n))
  where
    no_other : (a b : ℕ) → b ≡ a → (a + 1 == b + 1) ≡ false → ⊥
    no_other a b e n = grind arith

anew_begun : (guid : ℕ) (user : List ℕ) (d : Server) → Folds guid user d.epoch d → Anew guid user (d.epoch + 1)
    (fold_from d (epoch_records d))
unfolding fold_from
anew_begun guid user d f =
    either (λ rs. Anew guid user (d.epoch + 1) (fold_from d rs)) (d.version == 1) _ _
    (λ _. begins_anew guid user d.epoch (set_version d 2) (fold_stays guid user d.epoch d (set_version d 2) (stays_version d 2) (loose_version d 2) f))
    (λ _. begins_anew guid user d.epoch d f)

-- a mark that is cleared
cleared_ids : (d : Server) (origin : Origin) (f : ℕ) → (with_record d (DeleteRecord origin f false)).session_ids_given ≡ d.session_ids_given
cleared_ids d origin f = either (λ (t : Server). t.session_ids_given ≡ d.session_ids_given) (exists d f && not (f == root))
    (set_delete_pending d f false) d (λ _. refl) (λ _. refl)

anew_cleared : (guid : ℕ) (user : List ℕ) (n : ℕ) (d s : Server) (f : ℕ) → Anew guid user n d
    → Anew guid user n (fold_from d (mark_records s f))
unfolding fold_from mark_records
anew_cleared guid user n d s f a = either (λ rs. Anew guid user n (fold_from d rs)) (is_left_pending s f) _ _
    (λ _. record {
      folds = one_record guid user n d (DeleteRecord (origin_at 0) f false) tt a.folds;
      session_ids_given = cleared_ids d (origin_at 0) f ∙ a.session_ids_given;
    }) (λ _. a)

anew_unmarked : (guid : ℕ) (user : List ℕ) (n : ℕ) (d s : Server) (es : List Entry) → Anew guid user n d
    → Anew guid user n (fold_from d (unmark_records s es))
unfolding unmark_records fold_from
anew_unmarked guid user n d s [] a = a
anew_unmarked guid user n d s (e ∷ es) a =
    let rs = mark_records s e.file in
    subst (λ t. Anew guid user n t) (sym (fold_more d rs (unmark_records s es)))
    (anew_unmarked guid user n (fold_from d rs) s es (anew_cleared guid user n d s e.file a))

anew_at : (guid : ℕ) (user : List ℕ) (d : Server) → Folds guid user d.epoch d → Anew guid user (d.epoch + 1)
    (fold_from d (opening_records d))
anew_at guid user d f =
    let b = fold_from d (epoch_records d) in
    subst (λ t. Anew guid user (d.epoch + 1) t) (sym (fold_more d (epoch_records d) (unmark_records b b.entries)))
    (anew_unmarked guid user (d.epoch + 1) b b b.entries (anew_begun guid user d f))

anew_from : (guid : ℕ) (user : List ℕ) (epoch : ℕ) (d : Server) → Folds guid user epoch d → Anew guid user (epoch + 1)
    (fold_from d (opening_records d))
anew_from guid user epoch d f =
    subst (λ n. Anew guid user (n + 1) (fold_from d (opening_records d))) f.epoch (anew_at guid user d (record {
      epoch = refl;
      present = f.present;
      making = f.making;
      opens = f.opens;
      attached = f.attached;
    }))

pub anew : (guid : ℕ) (user : List ℕ) (s : Server) (rs : List Record) → Folds guid user s.epoch (fold rs)
    → Anew guid user (s.epoch + 1) (fold (rs ++ recovery_records rs))
anew guid user s rs f = subst (λ d. Anew guid user (s.epoch + 1) d)
    (sym (fold_more nothing_yet rs (recovery_records rs))) (anew_from guid user s.epoch (fold rs) f)

pub folds_nothing : (guid : ℕ) (user : List ℕ) → Folds guid user 0 (fold [])
unfolding fold_from
folds_nothing guid user = record { epoch = refl; present = λ x. refl; making = λ k. refl; opens = λ o h. absurd (cc); attached = λ o. refl }
