-- Each record of the journal keeps what fits together, and so does the state that a restart finds.
use Rattle.std.proofs.Common.{◌≡◌, ◌≢◌, ℕ, ◌+◌, ◌/◌, ◌%◌, ◌≤◌, ◌<◌, ◌==◌, nat_lt, nat_le, max, Bool, true, false, not}
use Rattle.std.proofs.Common.{◌&&◌, ◌||◌, List, [], ◌∷◌, ◌++◌, length, refl, arith, sym, subst, ◌∙◌, eqb-true, Option}
use Rattle.std.proofs.Common.{Some, None, is_some}
use Rattle.std.proofs.lemmas.Bool.{eqb-false}
use Rattle.std.proofs.lemmas.Bool.Decides.{nat_tests}
use Rattle.spec_exchange.specs.Status.{success}
use Rattle.spec_exchange.specs.Texts.{is_path, is_below}
use Rattle.spec_exchange.specs.Content.{written, ended, is_empty}
use Rattle.spec_exchange.specs.Commands.{Element, all_lock, all_unlock, deletes_on_close}
use Rattle.spec_exchange.specs.State.{Server, Entry, Record, NewOpen, EpochRecord, CreateRecord, WriteRecord, EndRecord}
use Rattle.spec_exchange.specs.State.{BasicRecord, DeleteRecord, RenameRecord, RemoveRecord, LockRecord, CloseRecord}
use Rattle.spec_exchange.specs.State.{VersionRecord, ExpireRecord}
use Rattle.spec_exchange.specs.Files.{root, find, path_of, exists, exists_in, is_directory, has_parent, passes_room}
use Rattle.spec_exchange.specs.Files.{make_file, empty_file, set_delete_pending}
use Rattle.spec_exchange.specs.Ranges.{RangeAnswer, Stands, Denied, change_ranges}
use Rattle.spec_exchange.specs.Opens.{id_of, max_ids, drop_open, file_has_open, without_gone, goes}
use Rattle.spec_exchange.specs.CheckOpen.{target_of, file_of}
use Rattle.spec_exchange.specs.Records.{entry_bytes}
use Rattle.spec_exchange.specs.Step.{max_expired_guids}
use Rattle.spec_exchange.specs.Fold.{nothing_yet, full_room, sweep, begin_epoch, may_make, may_restore, may_have_open}
use Rattle.spec_exchange.specs.Fold.{may_create, restored_row, restore, created_file, is_file, same_target, may_replace}
use Rattle.spec_exchange.specs.Fold.{may_rename, may_remove, lock_granted, lock_recorded, shut_recorded, with_record}
use Rattle.spec_exchange.specs.Fold.{fold_from, fold, recovery_records, recovered_from, opening_records, epoch_records, is_left_pending, mark_records, unmark_records}
use Rattle.law_server.specs.tables.Fits.{Fits, Listed, is_sound, all_sound, keeps_root}
use Rattle.law_server.proofs.tables.Logic.{either, front_of, back_of, both, not_true, none_of}
use Rattle.law_server.proofs.tables.Lists.{exists-pushed}
use Rattle.law_server.proofs.tables.AddOpen.{add_open_keeps}
use Rattle.law_server.proofs.tables.DropOpen.{drop_open_keeps}
use Rattle.law_server.proofs.tables.FileEffects.{make_file_keeps, set_delete_pending_keeps, remove_file_keeps, rename_file_keeps}
use Rattle.law_server.proofs.tables.SessionEffects.{epoch_keeps, configured_keeps}
use Rattle.law_server.proofs.tables.Leaving.{gone_keeps, unopened_of}
use Rattle.law_server.proofs.tables.Applied.{version_keeps, set_content_keeps, empty_file_keeps, store_basic_keeps}
use Rattle.law_server.proofs.tables.Applied.{keep_slot_keeps, add_expired_guid_keeps, ranges_keeps}

-- ---- lists of records

pub sound_more : (xs ys : List Record) → all_sound xs ≡ true → all_sound ys ≡ true → all_sound (xs ++ ys) ≡ true
unfolding all_sound
sound_more [] ys a b = b
sound_more (x ∷ xs) ys a b = both (is_sound x) (all_sound (xs ++ ys)) (front_of (is_sound x) (all_sound xs) a)
    (sound_more xs ys (back_of (is_sound x) (all_sound xs) a) b)

pub sound_one : (r : Record) → is_sound r ≡ true → all_sound (r ∷ []) ≡ true
unfolding all_sound
sound_one r h = both (is_sound r) true h refl

pub sound_none : all_sound [] ≡ true
unfolding all_sound
sound_none = refl

-- ---- epochs

gone_epoch : (s : Server) (f : ℕ) → (without_gone s f).epoch ≡ s.epoch
gone_epoch s f = either (λ (t : Server). t.epoch ≡ s.epoch) (goes s f) _ _ (λ _. refl) (λ _. refl)

swept_epoch : (s : Server) (es : List Entry) → (sweep s es).epoch ≡ s.epoch
unfolding sweep
swept_epoch s [] = refl
swept_epoch s (e ∷ es) = swept_epoch (without_gone s e.file) es ∙ gone_epoch s e.file

swept_keeps : (s : Server) (es : List Entry) → Fits s → Fits (sweep s es)
unfolding sweep
swept_keeps s [] i = i
swept_keeps s (e ∷ es) i = swept_keeps (without_gone s e.file) es (gone_keeps s e.file i)

next_epoch : (n a b : ℕ) → (n == a + 1) ≡ true → b ≡ a → n ≡ b + 1
next_epoch n a b e h = grind arith

begun_keeps : (s : Server) (number : ℕ) → Fits s → Fits (begin_epoch s number)
begun_keeps s number i =
    either (λ t. Fits t) (number == s.epoch + 1) _ _
    (λ e. epoch_keeps (sweep s s.entries) number (next_epoch number s.epoch (sweep s s.entries).epoch e
    (swept_epoch s s.entries)) (swept_keeps s s.entries i)) (λ _. i)

-- ---- creates

-- an open that may be restored
record Free (s : Server) (n : NewOpen) : Type 0 where
  pub epoch : (n.id / 0x1_0000_0000 == s.epoch) ≡ true
  pub counter : nat_lt 0 (n.id % 0x1_0000_0000) ≡ true
  pub standing : s.standing n.id ≡ false
  pub guid : s.by_guid n.client_guid n.create_guid ≡ None

free_of : (s : Server) (n : NewOpen) → may_restore s n ≡ true → Free s n
unfolding may_restore
free_of s n h =
    let a = back_of (n.id / 0x1_0000_0000 == s.epoch) _ h in let b = back_of (nat_lt 0 (n.id % 0x1_0000_0000)) _ a in
    let c = back_of (nat_lt s.open_ids_given max_ids) _ b in let d = back_of (not (s.standing n.id)) _ c in
    record {
      epoch = front_of (n.id / 0x1_0000_0000 == s.epoch) _ h;
      counter = front_of (nat_lt 0 (n.id % 0x1_0000_0000)) _ a;
      standing = not_true (s.standing n.id) (front_of (not (s.standing n.id)) _ c);
      guid = none_of (s.by_guid n.client_guid n.create_guid) (not_true (is_some (s.by_guid n.client_guid n.create_guid))
          (front_of (not (is_some (s.by_guid n.client_guid n.create_guid))) _ d));
    }

id_above : (id : ℕ) → nat_lt 0 (id % 0x1_0000_0000) ≡ true → 0 < id
id_above id h = let l : 0 < id % 0x1_0000_0000 = grind (arith, nat_tests) in omega (arith, l)

id_within : (id epoch given : ℕ) → (id / 0x1_0000_0000 == epoch) ≡ true → id ≤ id_of epoch (max given (id % 0x1_0000_0000))
id_within id epoch given h = let e : id / 0x1_0000_0000 ≡ epoch = eqb-true _ _ h in omega (arith, e)

given_more : (given n : ℕ) → given ≤ max given n
given_more given n = omega arith

given_most : (given id : ℕ) → given ≤ max_ids → max given (id % 0x1_0000_0000) ≤ max_ids
given_most given id h = omega (arith, h)

-- the new open's own guid
own_guid : (s : Server) (n : NewOpen) → s.by_guid n.client_guid n.create_guid ≡ None → (g : ℕ) → Some n.create_guid
    ≡ Some g → s.by_guid n.client_guid g ≡ None
own_guid s n free g e = grind arith

off_root : (f options : ℕ) → not (deletes_on_close options && (f == root)) ≡ true → deletes_on_close options ≡ true → f ≢ root
off_root f options h d = let e : (f == root) ≡ false = grind arith in eqb-false f root e

restored_on : (u : Server) (f action : ℕ) (n : NewOpen) → Free u n → exists u f ≡ true → keeps_root f (Some n) ≡ true
    → Fits u → Fits (restore u f action (Some n))
restored_on u f action n a file sound i =
    add_open_keeps u n.id (restored_row n f action) None 0 (max u.open_ids_given (n.id % 0x1_0000_0000)) u.guids u.tree_of_open
    a.standing (id_above n.id a.counter) (id_within n.id u.epoch u.open_ids_given a.epoch)
    (given_more u.open_ids_given (n.id % 0x1_0000_0000)) (given_most u.open_ids_given n.id i.given)
    (λ x e. absurd (cc)) (λ e. absurd (cc)) (own_guid u n a.guid) (λ _. refl) file (off_root f n.options sound) i.no_guids i

restored_keeps : (s u : Server) (f action : ℕ) (opened : Option NewOpen) → may_have_open s opened ≡ true → u.standing
    ≡ s.standing → u.by_guid ≡ s.by_guid → u.epoch ≡ s.epoch → exists u f ≡ true → keeps_root f opened ≡ true → Fits u
    → Fits (restore u f action opened)
unfolding may_have_open
restored_keeps s u f action None may st by ep file sound i = i
restored_keeps s u f action (Some n) may st by ep file sound i =
    let a = free_of s n may in
    restored_on u f action n
    (record {
      epoch = subst (λ e. (n.id / 0x1_0000_0000 == e) ≡ true) (sym ep) a.epoch;
      counter = a.counter;
      standing = subst (λ t. t n.id ≡ false) (sym st) a.standing;
      guid = subst (λ t. t n.client_guid n.create_guid ≡ None) (sym by) a.guid;
    })
    file sound i

made_there : (s : Server) (f : ℕ) (path : List ℕ) (is_dir : Bool) (attributes time : ℕ) → may_make s f path ≡ true
    → exists (make_file s path is_dir attributes time) f ≡ true
unfolding may_make exists
made_there s f path is_dir attributes time h =
    let e = eqb-true f s.next_file (front_of (f == s.next_file) _ h) in let more = exists-pushed s.entries (record {
      file = s.next_file;
      path = path;
    }) f in grind arith

emptied_there : (s : Server) (f attributes time : ℕ) → exists s f ≡ true → exists (empty_file s f attributes time) f ≡ true
unfolding exists
emptied_there s f attributes time h = h

created_keeps : (s : Server) (action f : ℕ) (path : List ℕ) (attributes : ℕ) (is_dir : Bool) (time : ℕ)
    (opened : Option NewOpen) → may_create s action f path ≡ true → may_have_open s opened ≡ true → keeps_root f opened
    ≡ true → Fits s
    → Fits (restore (created_file s action f path attributes is_dir time) f action opened)
unfolding may_create
created_keeps s action f path attributes is_dir time opened may have sound i =
    either (λ u. Fits (restore u f action opened)) (action == 2) _ _
    (λ e. restored_keeps s (make_file s path is_dir attributes time) f action opened have refl refl refl
    (made_there s f path is_dir attributes time (grind arith)) sound (make_file_keeps s path is_dir attributes time
    i))
    (λ e. either (λ u. Fits (restore u f action opened)) (action == 1) _ _
    (λ h. restored_keeps s s f action opened have refl refl refl (grind arith) sound i)
    (λ h. restored_keeps s (empty_file s f attributes time) f action opened have refl refl refl
    (emptied_there s f attributes time (grind arith)) sound (empty_file_keeps s f attributes time i)))

-- ---- the other records

replaced_unopened : (s : Server) (target : Option ℕ) → may_replace s target ≡ true → Listed s → (t p : ℕ) → target
    ≡ Some t → s.standing p ≡ true → ((s.opened p).file == t) ≡ false
unfolding may_replace
replaced_unopened s None e l t p is stands = absurd (cc)
replaced_unopened s (Some x) e l t p is stands =
    let off = unopened_of s x (not_true (file_has_open s x) (back_of (not (is_directory s x)) (not (file_has_open s x))
    e)) l p stands in grind arith

replaces : (s : Server) (f replaced : ℕ) (path : List ℕ) → may_rename s f replaced path ≡ true
    → may_replace s (target_of f (find s path)) ≡ true
unfolding may_rename
replaces s f replaced path h =
    let a = back_of (exists s f) _ h in let b = back_of (not (f == root)) _ a in let c = back_of (is_path path) _ b in
    let d = back_of (has_parent s path) _ c in
    let e = back_of (not (is_directory s f && is_below (path_of s f) path)) _ d in
    back_of (same_target (target_of f (find s path)) replaced) _ e

removes : (s : Server) (f : ℕ) → may_remove s f ≡ true → file_has_open s f ≡ false
unfolding may_remove
removes s f h =
    let a = back_of (exists s f) _ h in let b = back_of (not (f == root)) _ a in not_true (file_has_open s f)
    (front_of (not (file_has_open s f)) _ b)

granted_keeps : (s : Server) (o index number : ℕ) (elements : List Element) → s.standing o ≡ true → (A : RangeAnswer)
    → change_ranges (s.ranges (file_of s o)) o elements ≡ A → Fits s → Fits (lock_granted s o index number A)
granted_keeps s o index number elements stands (Denied status) e i = i
granted_keeps s o index number elements stands (Stands ranges) e i = ranges_keeps s o index number elements ranges stands e i

locked_keeps : (s : Server) (o index number status : ℕ) (elements : List Element) → s.standing o ≡ true → Fits s
    → Fits (lock_recorded s o index number status elements)
locked_keeps s o index number status elements stands i =
    either (λ t. Fits t) (not (all_lock elements || all_unlock elements)) _ _ (λ _. i)
    (λ _. either (λ t. Fits t) (status == success) _ _ (λ _. granted_keeps s o index number elements stands
    (change_ranges (s.ranges (file_of s o)) o elements) refl i) (λ _. keep_slot_keeps s o index number status i))

pub shut_recorded_keeps : (s : Server) (o : ℕ) → s.standing o ≡ true → Fits s → Fits (shut_recorded s o)
shut_recorded_keeps s o stands i =
    either (λ t. Fits (drop_open t o)) (deletes_on_close (s.opened o).options) _ _
    (λ d. drop_open_keeps (set_delete_pending s (s.opened o).file true) o stands
    (set_delete_pending_keeps s (s.opened o).file true (λ _. i.not_root o d) i)) (λ _. drop_open_keeps s o stands i)

deleted_off : (f : ℕ) (there : Bool) → (there && not (f == root)) ≡ true → f ≢ root
deleted_off f there h = eqb-false f root (not_true (f == root) (back_of there (not (f == root)) h))

pub recorded_keeps : (s : Server) (r : Record) → is_sound r ≡ true → Fits s → Fits (with_record s r)
recorded_keeps s (EpochRecord number) sound i = begun_keeps s number i
recorded_keeps s (VersionRecord number) sound i = either (λ t. Fits t) ((number == 2) && (s.version == 1)) _ _
    (λ _. version_keeps s 2 i) (λ _. i)
recorded_keeps s (CreateRecord origin action f path attributes is_dir time opened) sound i =
    either (λ t. Fits t) (may_create s action f path && may_have_open s opened) _ _
    (λ h. created_keeps s action f path attributes is_dir time opened (front_of (may_create s action f path) _ h)
    (back_of (may_create s action f path) _ h) sound i) (λ _. i)
recorded_keeps s (WriteRecord origin f at time bytes) sound i =
    either (λ t. Fits t) (is_file s f && (not (is_empty bytes) && not (passes_room s f (at + length bytes)))) _ _
    (λ _. set_content_keeps s f (written at bytes (s.content f)) time i) (λ _. i)
recorded_keeps s (EndRecord origin f size time) sound i = either (λ t. Fits t)
    (is_file s f && not (passes_room s f size)) _ _ (λ _. set_content_keeps s f (ended size (s.content f)) time i)
    (λ _. i)
recorded_keeps s (BasicRecord origin f basic) sound i = either (λ t. Fits t) (exists s f) _ _ (λ _. store_basic_keeps s f basic i) (λ _. i)
recorded_keeps s (DeleteRecord origin f flag) sound i = either (λ t. Fits t) (exists s f && not (f == root)) _ _
    (λ h. set_delete_pending_keeps s f flag (λ _. deleted_off f (exists s f) h) i) (λ _. i)
recorded_keeps s (RenameRecord origin f replaced path) sound i =
    either (λ t. Fits t) (may_rename s f replaced path) _ _
    (λ h. rename_file_keeps s f (target_of f (find s path)) path (replaced_unopened s (target_of f (find s path))
    (replaces s f replaced path h) i.listed) i) (λ _. i)
recorded_keeps s (RemoveRecord origin f) sound i = either (λ t. Fits t) (may_remove s f) _ _
    (λ h. remove_file_keeps s f (unopened_of s f (removes s f h) i.listed) i) (λ _. i)
recorded_keeps s (LockRecord origin o index number status elements) sound i =
    either (λ t. Fits t) (s.standing o && nat_le index 64) _ _ (λ h. locked_keeps s o index number status elements
    (front_of (s.standing o) _ h) i) (λ _. i)
recorded_keeps s (CloseRecord origin o) sound i = either (λ t. Fits t) (s.standing o) _ _ (λ h. shut_recorded_keeps s o h i) (λ _. i)
recorded_keeps s (ExpireRecord origin o) sound i =
    either (λ t. Fits t) (s.standing o && nat_lt s.expired_count max_expired_guids) _ _
    (λ h. add_expired_guid_keeps (shut_recorded s o) (s.opened o).client_guid (s.opened o).create_guid
    (shut_recorded_keeps s o (front_of (s.standing o) _ h) i)) (λ _. i)

pub folded_keeps : (s : Server) (rs : List Record) → all_sound rs ≡ true → Fits s → Fits (fold_from s rs)
unfolding all_sound fold_from
folded_keeps s [] sound i = i
folded_keeps s (r ∷ rs) sound i = folded_keeps (with_record s r) rs (back_of (is_sound r) (all_sound rs) sound)
    (recorded_keeps s r (front_of (is_sound r) (all_sound rs) sound) i)

-- ---- the state of no records, and a restart

no_options : deletes_on_close 0 ≡ false
unfolding deletes_on_close Rattle.spec_exchange.specs.Commands.has_bit
no_options = refl

nothing_fits : Fits nothing_yet
unfolding Rattle.law_server.specs.tables.Fits.is_ascending exists exists_in
nothing_fits =
    record {
      attached = λ p x h. absurd (cc);
      plain_attached = λ p st pl. absurd (cc);
      guid_open = λ c g p h. absurd (cc);
      open_guid = λ p g st h. absurd (cc);
      persistent_guid = λ p st h. absurd (cc);
      deadlines = λ p d h. absurd (cc);
      listed = λ p. refl;
      ascending = refl;
      open_ids = λ p st. absurd (cc);
      given = omega arith;
      begun = omega arith;
      session_ids = λ x h. absurd (cc);
      making_ids = λ k x h. absurd (cc);
      making_once = λ j k x h e. absurd (cc);
      on_present = λ k x h. absurd (cc);
      on_made = λ k x h. absurd (cc);
      no_trees = λ x h. refl;
      no_closed = λ x g h. refl;
      no_refused = λ x g h. refl;
      no_guids = λ x h. refl;
      next_tree = λ x h. absurd (cc);
      tree_ids = λ x n t h. absurd (cc);
      range_owners = λ y n r h. absurd (cc);
      not_root = λ p h. absurd (let e = no_options in cc);
      root_stays = refl;
      open_files = λ p st. absurd (cc);
      next_file = omega arith;
      file_numbers = λ y h. absurd (cc);
      room = omega arith;
      limit = refl;
    }

pub sound_epoch : (s : Server) → all_sound (epoch_records s) ≡ true
unfolding all_sound
sound_epoch s = either (λ rs. all_sound rs ≡ true) (s.version == 1) _ _ (λ _. refl) (λ _. refl)

sound_mark : (s : Server) (f : ℕ) → all_sound (mark_records s f) ≡ true
unfolding mark_records
sound_mark s f = either (λ rs. all_sound rs ≡ true) (is_left_pending s f) _ _ (λ _. sound_one _ refl) (λ _. sound_none)

pub sound_unmarked : (s : Server) (es : List Entry) → all_sound (unmark_records s es) ≡ true
unfolding unmark_records
sound_unmarked s [] = sound_none
sound_unmarked s (e ∷ es) = sound_more (mark_records s e.file) _ (sound_mark s e.file) (sound_unmarked s es)

pub sound_recovery : (s : Server) → all_sound (opening_records s) ≡ true
sound_recovery s = let d = fold_from s (epoch_records s) in
    sound_more (epoch_records s) (unmark_records d d.entries) (sound_epoch s) (sound_unmarked d d.entries)

-- a server that stands at the fold of its records, under a configuration with no more than the full room
pub recovered_fits : (s : Server) (rs : List Record) → s.room ≤ full_room → all_sound rs ≡ true → Fits (recovered_from s rs)
recovered_fits s rs small sound =
    configured_keeps (fold (rs ++ recovery_records rs)) s.share s.room s.encrypts s.address
    (s.journal + entry_bytes (recovery_records rs)) small
    (folded_keeps nothing_yet (rs ++ recovery_records rs) (sound_more rs (recovery_records rs) sound
    (sound_recovery (fold rs))) nothing_fits)
