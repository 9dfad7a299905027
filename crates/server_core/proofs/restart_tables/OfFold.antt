-- What every fold of records has: a version of the journal, the whole room, and persistent opens alone.
use Rattle.std.proofs.Common.{◌≡◌, ◌⊎◌, inl, inr, ℕ, ◌+◌, ◌≤◌, ◌==◌, nat_lt, nat_le, Bool, true, false, not, ◌&&◌, ◌||◌, if◌then◌else◌}
use Rattle.std.proofs.Common.{List, [], ◌∷◌, ◌++◌, length, refl, arith, sym, ◌∙◌, ap, Option, Some, None, slice_get, suc}
use Rattle.spec_exchange.specs.Table.{put, put2, has}
use Rattle.spec_exchange.specs.Status.{success}
use Rattle.spec_exchange.specs.Content.{written, ended, is_empty}
use Rattle.spec_exchange.specs.Commands.{Element, all_lock, all_unlock, deletes_on_close}
use Rattle.spec_exchange.specs.State.{Server, Open, Entry, Range, Record, NewOpen, EpochRecord, CreateRecord, WriteRecord}
use Rattle.spec_exchange.specs.State.{EndRecord, BasicRecord, DeleteRecord, RenameRecord, RemoveRecord, LockRecord, CloseRecord}
use Rattle.spec_exchange.specs.State.{VersionRecord, ExpireRecord}
use Rattle.spec_exchange.specs.Files.{root, find, exists, make_file, empty_file, set_content, store_basic, set_delete_pending}
use Rattle.spec_exchange.specs.Files.{remove_file, rename_file, passes_room}
use Rattle.spec_exchange.specs.Ranges.{RangeAnswer, Stands, Denied, change_ranges}
use Rattle.spec_exchange.specs.Opens.{drop_open, pending_behind, goes, without_gone}
use Rattle.spec_exchange.specs.CheckOpen.{target_of, file_of, is_slot}
use Rattle.spec_exchange.specs.Effects.{keep_slot, set_ranges}
use Rattle.spec_exchange.specs.Step.{add_expired_guid, max_expired_guids}
use Rattle.spec_exchange.specs.Fold.{Configuration, nothing_yet, with_record, fold_from, fold, sweep, begin_epoch, set_version, full_room}
use Rattle.spec_exchange.specs.Fold.{may_create, may_have_open, restore, restored_row, created_file, is_file, may_rename, may_remove}
use Rattle.spec_exchange.specs.Fold.{lock_granted, lock_recorded, shut_recorded, opening_records, recovery_records}
use Rattle.spec_exchange.specs.Fold.{recovered, persistent_in}
use Rattle.law_server.specs.tables.Fits.{Fits, all_sound}
use Rattle.law_server.proofs.tables.Logic.{either, both}
use Rattle.law_server.proofs.tables.Folded.{folded_keeps, sound_more, sound_recovery}
use Rattle.law_records.specs.recovery.Recovers.{RecordOpens, RecordRecovers, staying, kept_guid, kept_ranges}
use Rattle.law_records.proofs.recovery.Lists.{in_tail, at_head}
use Rattle.law_records.proofs.recovery.Marks.{opened_same}
use Rattle.server_core.proofs.durable_state.Choice.{eq_on}
use Rattle.server_core.proofs.Nothing.{nothing_fits}

pub record OfFold (version room : ℕ) (standing : ℕ → Bool) (opened : ℕ → Open) : Type 0 where
  pub version_is : (version ≡ 1) ⊎ (version ≡ 2)
  pub full : room ≡ full_room
  pub persistent : (o : ℕ) → standing o ≡ true → (opened o).persistent ≡ true

abbrev pub IsOfFold : Server → Type 0
IsOfFold s = OfFold s.version s.room s.standing s.opened

-- ---- no record makes another open

pub put_persistent : (standing : ℕ → Bool) (opened : ℕ → Open) (k : ℕ) (row : Open) → row.persistent ≡ true
    → ((o : ℕ) → standing o ≡ true → (opened o).persistent ≡ true) → (o : ℕ) → put standing k true o ≡ true
    → (put opened k row o).persistent ≡ true
put_persistent standing opened k row p h o = by (o == k)
  where
    by : (b : Bool) → (if b then true else standing o) ≡ true → (if b then row else opened o).persistent ≡ true
    by true e = p
    by false e = h o e

dropped_persistent : (standing : ℕ → Bool) (opened : ℕ → Open) (k : ℕ)
    → ((o : ℕ) → standing o ≡ true → (opened o).persistent ≡ true) → (o : ℕ) → put standing k false o ≡ true
    → (opened o).persistent ≡ true
dropped_persistent standing opened k h o = by (o == k)
  where
    by : (b : Bool) → (if b then false else standing o) ≡ true → (opened o).persistent ≡ true
    by true e = absurd (cc)
    by false e = h o e

of_swept : (s : Server) (es : List Entry) → IsOfFold s → IsOfFold (sweep s es)
unfolding sweep
of_swept s [] h = h
of_swept s (e ∷ es) h = of_swept (without_gone s e.file) es
    (either (λ x. IsOfFold x) (goes s e.file) (remove_file s e.file) s (λ _. h) (λ _. h))

of_epoch : (s : Server) (number : ℕ) → IsOfFold s → IsOfFold (begin_epoch s number)
of_epoch s number h = either (λ x. IsOfFold x) (number == s.epoch + 1) (record (sweep s s.entries) {
  epoch = number;
  open_ids_given = 0;
  session_ids_given = 0;
}) s (λ _. of_swept s s.entries h) (λ _. h)

of_version : (s : Server) (number : ℕ) → IsOfFold s → IsOfFold (set_version s number)
of_version s number h = either (λ x. IsOfFold x) ((number == 2) && (s.version == 1)) (record s { version = 2 }) s
    (λ _. record { version_is = inr refl; full = h.full; persistent = h.persistent }) (λ _. h)

of_file : (s : Server) (action f : ℕ) (path : List ℕ) (attributes : ℕ) (is_dir : Bool) (time : ℕ) → IsOfFold s
    → IsOfFold (created_file s action f path attributes is_dir time)
of_file s action f path attributes is_dir time h =
    either (λ x. IsOfFold x) (action == 2) (make_file s path is_dir attributes time)
    (if action == 1 then s else empty_file s f attributes time) (λ _. h)
    (λ _. either (λ x. IsOfFold x) (action == 1) s (empty_file s f attributes time) (λ _. h) (λ _. h))

of_restored : (s : Server) (f action : ℕ) (opened : Option NewOpen) → IsOfFold s → IsOfFold (restore s f action opened)
of_restored s f action None h = h
of_restored s f action (Some n) h =
    record {
      version_is = h.version_is;
      full = h.full;
      persistent = put_persistent s.standing s.opened n.id (restored_row n f action) refl h.persistent;
    }

of_dropped : (s : Server) (o : ℕ) → IsOfFold s → IsOfFold (drop_open s o)
of_dropped s o h =
    record { version_is = h.version_is; full = h.full; persistent = dropped_persistent s.standing s.opened o h.persistent }

of_shut : (s : Server) (o : ℕ) → IsOfFold s → IsOfFold (shut_recorded s o)
of_shut s o h = of_dropped (pending_behind s o) o (either (λ x. IsOfFold x) (deletes_on_close (s.opened o).options)
    (set_delete_pending s (s.opened o).file true) s (λ _. h) (λ _. h))

of_expired : (s : Server) (client : ℕ) (guid : Option ℕ) → IsOfFold s → IsOfFold (add_expired_guid s client guid)
of_expired s client None h = h
of_expired s client (Some g) h = h

pub of_slot : (s : Server) (o index number status : ℕ) → IsOfFold s → IsOfFold (keep_slot s o index number status)
of_slot s o index number status h = either (λ x. IsOfFold x) (is_slot index) (record s {
  lock_sequences = put2 s.lock_sequences o index (Some (record { number = number; status = status }));
}) s (λ _. h)
    (λ _. h)

of_granted : (s : Server) (o index number : ℕ) (x : RangeAnswer) → IsOfFold s → IsOfFold (lock_granted s o index number x)
of_granted s o index number (Denied status) h = h
of_granted s o index number (Stands ranges) h = of_slot (set_ranges s (file_of s o) ranges) o index number success h

of_locked : (s : Server) (o index number status : ℕ) (es : List Element) → IsOfFold s
    → IsOfFold (lock_recorded s o index number status es)
of_locked s o index number status es h =
    let granted = lock_granted s o index number (change_ranges (s.ranges (file_of s o)) o es) in let kept =
    keep_slot s o index number status in
    either (λ x. IsOfFold x) (not (all_lock es || all_unlock es)) s (if status == success then granted else kept) (λ _. h)
    (λ _. either (λ x. IsOfFold x) (status == success) granted kept
    (λ _. of_granted s o index number (change_ranges (s.ranges (file_of s o)) o es) h)
    (λ _. of_slot s o index number status h))

of_record : (s : Server) (r : Record) → IsOfFold s → IsOfFold (with_record s r)
of_record s (EpochRecord number) h = of_epoch s number h
of_record s (VersionRecord number) h = of_version s number h
of_record s (CreateRecord origin action f path attributes is_dir time opened) h =
    let made = created_file s action f path attributes is_dir time in
    either (λ x. IsOfFold x) (may_create s action f path && may_have_open s opened) (restore made f action opened) s
    (λ _. of_restored made f action opened (of_file s action f path attributes is_dir time h)) (λ _. h)
of_record s (WriteRecord origin f at time bytes) h =
    either (λ x. IsOfFold x) (is_file s f && (not (is_empty bytes) && not (passes_room s f (at + length bytes))))
    (set_content s f (written at bytes (s.content f)) time) s (λ _. h) (λ _. h)
of_record s (EndRecord origin f size time) h = either (λ x. IsOfFold x) (is_file s f && not (passes_room s f size))
    (set_content s f (ended size (s.content f)) time) s (λ _. h) (λ _. h)
of_record s (BasicRecord origin f basic) h = either (λ x. IsOfFold x) (exists s f) (store_basic s f basic) s (λ _. h) (λ _. h)
of_record s (DeleteRecord origin f flag) h = either (λ x. IsOfFold x) (exists s f && not (f == root))
    (set_delete_pending s f flag) s (λ _. h) (λ _. h)
of_record s (RenameRecord origin f replaced path) h = either (λ x. IsOfFold x) (may_rename s f replaced path)
    (rename_file s f (target_of f (find s path)) path) s (λ _. h) (λ _. h)
of_record s (RemoveRecord origin f) h = either (λ x. IsOfFold x) (may_remove s f) (remove_file s f) s (λ _. h) (λ _. h)
of_record s (LockRecord origin o index number status es) h = either (λ x. IsOfFold x) (s.standing o && nat_le index 64)
    (lock_recorded s o index number status es) s (λ _. of_locked s o index number status es h) (λ _. h)
of_record s (CloseRecord origin o) h = either (λ x. IsOfFold x) (s.standing o) (shut_recorded s o) s (λ _. of_shut s o h) (λ _. h)
of_record s (ExpireRecord origin o) h =
    either (λ x. IsOfFold x) (s.standing o && nat_lt s.expired_count max_expired_guids)
    (add_expired_guid (shut_recorded s o) (s.opened o).client_guid (s.opened o).create_guid) s
    (λ _. of_expired (shut_recorded s o) (s.opened o).client_guid (s.opened o).create_guid (of_shut s o h)) (λ _. h)

pub of_from : (s : Server) (rs : List Record) → IsOfFold s → IsOfFold (fold_from s rs)
unfolding fold_from
of_from s [] h = h
of_from s (r ∷ rs) h = of_from (with_record s r) rs (of_record s r h)

pub of_fold : (rs : List Record) → IsOfFold (fold rs)
of_fold rs = of_from nothing_yet rs (record { version_is = inl refl; full = refl; persistent = λ o st. absurd (cc) })

-- ---- so a fold's opens are its own

pub all_persistent : (opened : ℕ → Open) (os : List ℕ) → ((o : ℕ) → has o os ≡ true → (opened o).persistent ≡ true)
    → os ≡ persistent_in opened os
unfolding persistent_in
all_persistent opened [] h = refl
all_persistent opened (o ∷ os) h =
    ap (λ (xs : List ℕ). o ∷ xs) (all_persistent opened os (λ p t. h p (in_tail p o os t)))
    ∙ ap (λ (b : Bool). if b then o ∷ persistent_in opened os else persistent_in opened os) (sym (h o (at_head o os)))

pub stays_so : (stands persistent : Bool) → (stands ≡ true → persistent ≡ true) → stands ≡ (stands && persistent)
stays_so true persistent h = sym (h refl)
stays_so false persistent h = refl

kept_so : (p : ℕ → Bool) (x : Option ℕ) → ((o : ℕ) → x ≡ Some o → p o ≡ true) → x ≡ kept_guid p x
kept_so p None h = refl
kept_so p (Some o) h = ap (λ (b : Bool). if b then Some o else None) (sym (h o refl))

ranges_so : (p : ℕ → Bool) (rs : List Range) → ((n : ℕ) (r : Range) → slice_get rs n ≡ Some r → p r.owner ≡ true) → rs ≡ kept_ranges p rs
unfolding kept_ranges
ranges_so p [] h = refl
ranges_so p (r ∷ rs) h =
    ap (λ (xs : List Range). r ∷ xs) (ranges_so p rs (λ n x e. h (suc n) x e))
    ∙ ap (λ (b : Bool). if b then r ∷ kept_ranges p rs else kept_ranges p rs) (sym (h 0 r refl))

own : (d : Server) → Fits d → IsOfFold d → RecordOpens d d
own d i f =
    record {
      opens = all_persistent d.opened d.opens (λ o t. f.persistent o (sym (i.listed o) ∙ t));
      standing = λ o. stays_so (d.standing o) (d.opened o).persistent (f.persistent o);
      opened = λ o e. refl;
      lock_sequences = λ o k e. refl;
      by_guid = λ c g. kept_so (staying d.standing d.opened) (d.by_guid c g) (λ o e. stays o (i.guid_open c g o e).0);
      ranges = λ g. ranges_so (staying d.standing d.opened) (d.ranges g) (λ n r e. stays r.owner (i.range_owners g n r e).0);
    }
  where
    stays : (o : ℕ) → d.standing o ≡ true → staying d.standing d.opened o ≡ true
    stays o st = both (d.standing o) (d.opened o).persistent st (f.persistent o st)

-- ---- behind what a recovery adds

version_swept : (s : Server) (es : List Entry) → (sweep s es).version ≡ s.version
unfolding sweep
version_swept s [] = refl
version_swept s (e ∷ es) = version_swept (without_gone s e.file) es
    ∙ either (λ x. x.version ≡ s.version) (goes s e.file) (remove_file s e.file) s (λ _. refl) (λ _. refl)

version_stays : (s : Server) (number : ℕ) → (begin_epoch s number).version ≡ s.version
version_stays s number = either (λ x. x.version ≡ s.version) (number == s.epoch + 1) (record (sweep s s.entries) {
  epoch = number;
  open_ids_given = 0;
  session_ids_given = 0;
}) s (λ _. version_swept s s.entries) (λ _. refl)

raised : (s : Server) → (s.version == 1) ≡ true → (set_version s 2).version ≡ 2
raised s e = ap (λ (b : Bool). (if b then record s { version = 2 } else s).version) e

other_version : (version : ℕ) → (version == 1) ≡ false → (version ≡ 1) ⊎ (version ≡ 2) → version ≡ 2
other_version version off (inl one) = absurd (let e = sym off ∙ eq_on version 1 one in cc)
other_version version off (inr two) = two

pub version_2 : (d : Server) → IsOfFold d → (fold_from d (opening_records d)).version ≡ 2
unfolding fold_from
version_2 d f =
    ap (λ (x : Server). x.version) (opened_same d)
    ∙ either (λ rs. (fold_from d rs).version ≡ 2) (d.version == 1) (VersionRecord 2 ∷ EpochRecord (d.epoch + 1) ∷ [])
    (EpochRecord (d.epoch + 1) ∷ [])
    (λ on. version_stays (set_version d 2) (d.epoch + 1) ∙ raised d on)
    (λ off. version_stays d (d.epoch + 1) ∙ other_version d.version off f.version_is)

same_test : (n m : ℕ) → n ≡ m → (n == m) ≡ true
same_test n m e = eq_on n m e

none_begun : (s : Server) (number : ℕ) → number ≡ s.epoch + 1 → (begin_epoch s number).session_ids_given ≡ 0
none_begun s number e = ap (λ (b : Bool). (if b then record (sweep s s.entries) {
  epoch = number;
  open_ids_given = 0;
  session_ids_given = 0;
} else s).session_ids_given) (same_test number (s.epoch + 1) e)

epoch_kept : (s : Server) (number : ℕ) → (set_version s number).epoch ≡ s.epoch
epoch_kept s number = either (λ x. x.epoch ≡ s.epoch) ((number == 2) && (s.version == 1)) (record s { version = 2 }) s
    (λ _. refl) (λ _. refl)

pub no_session : (d : Server) → (fold_from d (opening_records d)).session_ids_given ≡ 0
unfolding fold_from
no_session d =
    ap (λ (x : Server). x.session_ids_given) (opened_same d)
    ∙ either (λ rs. (fold_from d rs).session_ids_given ≡ 0) (d.version == 1) (VersionRecord 2 ∷ EpochRecord (d.epoch + 1) ∷ [])
    (EpochRecord (d.epoch + 1) ∷ [])
    (λ on. none_begun (set_version d 2) (d.epoch + 1) (ap (λ (n : ℕ). n + 1) (sym (epoch_kept d 2))))
    (λ off. none_begun d (d.epoch + 1) refl)

-- ---- of all records

abbrev with_recovery : List Record → List Record
with_recovery rs = rs ++ recovery_records rs

pub all_recover : (z : Configuration) (bytes : ℕ) (rs : List Record) → z.room ≤ full_room → all_sound rs ≡ true
    → RecordRecovers (with_recovery rs) (recovered z bytes rs)
all_recover z bytes rs small sound =
    let d = fold (with_recovery rs) in
    let f = of_fold (with_recovery rs) in
    let sound_all = sound_more rs (recovery_records rs) sound (sound_recovery (fold rs)) in (
      record { entries = refl; next_file = refl; directory = refl; delete_pending = refl; basic = refl; content = refl },
      own d (folded_keeps nothing_yet (with_recovery rs) sound_all nothing_fits) f,
      record {
        version = refl;
        epoch = refl;
        open_ids_given = omega arith;
        full = f.full;
        room = small;
        expired_guids = refl;
        expired_count = refl;
      },
    )
