-- A restart: what recovery makes of the records.
use Rattle.std.proofs.Common.{◌≡◌, ℕ, ◌+◌, ◌≤◌, ◌==◌, nat_lt, nat_le, Bool, true, false, not, ◌&&◌, ◌||◌, if◌then◌else◌}
use Rattle.std.proofs.Common.{List, [], ◌∷◌, ◌++◌, length, refl, arith, sym, subst, ◌∙◌, ap, Option, Some, None}
use Rattle.spec_exchange.specs.Table.{put, put2, has, is_filled}
use Rattle.spec_exchange.specs.Status.{success}
use Rattle.spec_exchange.specs.Content.{written, ended, is_empty}
use Rattle.spec_exchange.specs.Commands.{Element, all_lock, all_unlock, deletes_on_close}
use Rattle.spec_exchange.specs.State.{Server, Open, Entry, Range, Kept, Record, NewOpen, EpochRecord, CreateRecord}
use Rattle.spec_exchange.specs.State.{WriteRecord, EndRecord, BasicRecord, DeleteRecord, RenameRecord, RemoveRecord}
use Rattle.spec_exchange.specs.State.{LockRecord, CloseRecord, VersionRecord, ExpireRecord}
use Rattle.spec_exchange.specs.Files.{root, find, exists, exists_in, path_in, make_file, empty_file, set_content}
use Rattle.spec_exchange.specs.Files.{store_basic, set_delete_pending, remove_file, rename_file, passes_room}
use Rattle.spec_exchange.specs.Ranges.{RangeAnswer, Stands, Denied, change_ranges}
use Rattle.spec_exchange.specs.Opens.{id_of, max_ids, opens_in, file_has_open, drop_open, pending_behind, goes, without_gone}
use Rattle.spec_exchange.specs.CheckOpen.{target_of, file_of, is_slot}
use Rattle.spec_exchange.specs.Effects.{keep_slot, set_ranges}
use Rattle.spec_exchange.specs.Step.{add_expired_guid, max_expired_guids}
use Rattle.spec_exchange.specs.Fold.{nothing_yet, with_record, fold_from, fold, sweep, begin_epoch, set_version}
use Rattle.spec_exchange.specs.Fold.{may_create, may_have_open, restore, created_file, is_file, may_rename, may_remove}
use Rattle.spec_exchange.specs.Fold.{lock_granted, lock_recorded, shut_recorded, recovery_records, recovered_from}
use Rattle.spec_exchange.specs.Fold.{epoch_records, unmark_records}
use Rattle.law_server.proofs.tables.Logic.{either, both}
use Rattle.law_records.specs.recovery.Recovers.{staying, kept_guid, Files, RecordOpens, RecordRecovers}
use Rattle.law_records.specs.recovery.Restarted.{Bare, Restarted, EntriesLeft}
use Rattle.law_server.specs.tables.Fits.{Listed, RootStays}
use Rattle.law_records.proofs.recovery.Lists.{has_file, has_persistent}
use Rattle.law_records.proofs.recovery.Leaves.{fold_append}
use Rattle.law_records.proofs.recovery.Sweeps.{left_behind, held_behind}
use Rattle.law_records.proofs.recovery.Marks.{Unmarked, unmarked_itself, unmarked_from, pending_opened}

-- ---- no record keeps a session

none_put : {X : Type 0} (f : ℕ → X) (k : ℕ) (v : X) → ((q : ℕ) → f q ≡ v) → (q : ℕ) → put f k v q ≡ v
none_put f k v h q = let old = h q in grind arith

bare_swept : (s : Server) (es : List Entry) → Bare s → Bare (sweep s es)
unfolding sweep
bare_swept s [] h = h
bare_swept s (e ∷ es) h = bare_swept (without_gone s e.file) es
    (either (λ x. Bare x) (goes s e.file) (remove_file s e.file) s (λ _. h) (λ _. h))

bare_epoch : (s : Server) (number : ℕ) → Bare s → Bare (begin_epoch s number)
bare_epoch s number h = either (λ x. Bare x) (number == s.epoch + 1) (record (sweep s s.entries) {
  epoch = number;
  open_ids_given = 0;
  session_ids_given = 0;
}) s (λ _. bare_swept s s.entries h) (λ _. h)

bare_file : (s : Server) (action f : ℕ) (path : List ℕ) (attributes : ℕ) (is_dir : Bool) (time : ℕ) → Bare s
    → Bare (created_file s action f path attributes is_dir time)
bare_file s action f path attributes is_dir time h =
    either (λ x. Bare x) (action == 2) (make_file s path is_dir attributes time)
    (if action == 1 then s else empty_file s f attributes time) (λ _. h)
    (λ _. either (λ x. Bare x) (action == 1) s (empty_file s f attributes time) (λ _. h) (λ _. h))

bare_opened : (s : Server) (f action : ℕ) (opened : Option NewOpen) → Bare s → Bare (restore s f action opened)
bare_opened s f action None h = h
bare_opened s f action (Some n) h =
    record {
      apart = none_put s.session_of_open n.id None h.apart;
      unreached = none_put s.sequence n.id 0 h.unreached;
      undated = none_put s.deadline n.id None h.undated;
      unlisted = none_put s.enumeration_location n.id None h.unlisted;
      unmoved = none_put s.current_byte_offset n.id 0 h.unmoved;
      absent = h.absent;
      no_count = h.no_count;
      no_trees = h.no_trees;
      unclosed = h.unclosed;
      unrefused = h.unrefused;
      no_guids = h.no_guids;
      no_connections = h.no_connections;
      off = h.off;
      unmade = h.unmade;
    }

bare_dropped : (s : Server) (o : ℕ) → Bare s → Bare (drop_open s o)
bare_dropped s o h =
    record {
      apart = none_put s.session_of_open o None h.apart;
      unreached = h.unreached;
      undated = none_put s.deadline o None h.undated;
      unlisted = h.unlisted;
      unmoved = h.unmoved;
      absent = h.absent;
      no_count = h.no_count;
      no_trees = h.no_trees;
      unclosed = h.unclosed;
      unrefused = h.unrefused;
      no_guids = h.no_guids;
      no_connections = h.no_connections;
      off = h.off;
      unmade = h.unmade;
    }

bare_shut : (s : Server) (o : ℕ) → Bare s → Bare (shut_recorded s o)
bare_shut s o h = bare_dropped (pending_behind s o) o (either (λ x. Bare x) (deletes_on_close (s.opened o).options)
    (set_delete_pending s (s.opened o).file true) s (λ _. h) (λ _. h))

bare_expired : (s : Server) (client : ℕ) (guid : Option ℕ) → Bare s → Bare (add_expired_guid s client guid)
bare_expired s client None h = h
bare_expired s client (Some g) h = h

bare_slot : (s : Server) (o index number status : ℕ) → Bare s → Bare (keep_slot s o index number status)
bare_slot s o index number status h = either (λ x. Bare x) (is_slot index) (record s {
  lock_sequences = put2 s.lock_sequences o index (Some (record { number = number; status = status }));
}) s (λ _. h)
    (λ _. h)

bare_granted : (s : Server) (o index number : ℕ) (x : RangeAnswer) → Bare s → Bare (lock_granted s o index number x)
bare_granted s o index number (Denied status) h = h
bare_granted s o index number (Stands ranges) h = bare_slot (set_ranges s (file_of s o) ranges) o index number success h

bare_locked : (s : Server) (o index number status : ℕ) (es : List Element) → Bare s → Bare (lock_recorded s o index number status es)
bare_locked s o index number status es h =
    let granted = lock_granted s o index number (change_ranges (s.ranges (file_of s o)) o es) in let kept =
    keep_slot s o index number status in
    either (λ x. Bare x) (not (all_lock es || all_unlock es)) s (if status == success then granted else kept) (λ _. h)
    (λ _. either (λ x. Bare x) (status == success) granted kept
    (λ _. bare_granted s o index number (change_ranges (s.ranges (file_of s o)) o es) h)
    (λ _. bare_slot s o index number status h))

bare_record : (s : Server) (r : Record) → Bare s → Bare (with_record s r)
bare_record s (EpochRecord number) h = bare_epoch s number h
bare_record s (VersionRecord number) h = either (λ x. Bare x) ((number == 2) && (s.version == 1)) (record s {
  version = 2;
}) s (λ _. h) (λ _. h)
bare_record s (CreateRecord origin action f path attributes is_dir time opened) h =
    let made = created_file s action f path attributes is_dir time in
    either (λ x. Bare x) (may_create s action f path && may_have_open s opened) (restore made f action opened) s
    (λ _. bare_opened made f action opened (bare_file s action f path attributes is_dir time h)) (λ _. h)
bare_record s (WriteRecord origin f at time bytes) h =
    either (λ x. Bare x) (is_file s f && (not (is_empty bytes) && not (passes_room s f (at + length bytes))))
    (set_content s f (written at bytes (s.content f)) time) s (λ _. h) (λ _. h)
bare_record s (EndRecord origin f size time) h = either (λ x. Bare x) (is_file s f && not (passes_room s f size))
    (set_content s f (ended size (s.content f)) time) s (λ _. h) (λ _. h)
bare_record s (BasicRecord origin f basic) h = either (λ x. Bare x) (exists s f) (store_basic s f basic) s (λ _. h) (λ _. h)
bare_record s (DeleteRecord origin f flag) h = either (λ x. Bare x) (exists s f && not (f == root))
    (set_delete_pending s f flag) s (λ _. h) (λ _. h)
bare_record s (RenameRecord origin f replaced path) h = either (λ x. Bare x) (may_rename s f replaced path)
    (rename_file s f (target_of f (find s path)) path) s (λ _. h) (λ _. h)
bare_record s (RemoveRecord origin f) h = either (λ x. Bare x) (may_remove s f) (remove_file s f) s (λ _. h) (λ _. h)
bare_record s (LockRecord origin o index number status es) h = either (λ x. Bare x) (s.standing o && nat_le index 64)
    (lock_recorded s o index number status es) s (λ _. bare_locked s o index number status es h) (λ _. h)
bare_record s (CloseRecord origin o) h = either (λ x. Bare x) (s.standing o) (shut_recorded s o) s (λ _. bare_shut s o h) (λ _. h)
bare_record s (ExpireRecord origin o) h =
    either (λ x. Bare x) (s.standing o && nat_lt s.expired_count max_expired_guids)
    (add_expired_guid (shut_recorded s o) (s.opened o).client_guid (s.opened o).create_guid) s
    (λ _. bare_expired (shut_recorded s o) (s.opened o).client_guid (s.opened o).create_guid (bare_shut s o h)) (λ _. h)

bare_from : (s : Server) (rs : List Record) → Bare s → Bare (fold_from s rs)
unfolding fold_from
bare_from s [] h = h
bare_from s (r ∷ rs) h = bare_from (with_record s r) rs (bare_record s r h)

pub bare_fold : (rs : List Record) → Bare (fold rs)
bare_fold rs = bare_from nothing_yet rs (record {
  apart = λ o. refl;
  unreached = λ o. refl;
  undated = λ o. refl;
  unlisted = λ o. refl;
  unmoved = λ o. refl;
  absent = λ x. refl;
  no_count = refl;
  no_trees = λ x. refl;
  unclosed = λ x g. refl;
  unrefused = λ x g. refl;
  no_guids = λ x. refl;
  no_connections = refl;
  off = λ k. refl;
  unmade = λ k. refl;
})

-- ---- a new epoch touches neither opens nor what is in the files

-- all that stands as it stood, but the entries
pub record Carried (s u : Server) : Type 0 where
  pub opens : u.opens ≡ s.opens
  pub standing : u.standing ≡ s.standing
  pub opened : u.opened ≡ s.opened
  pub lock_sequences : u.lock_sequences ≡ s.lock_sequences
  pub by_guid : u.by_guid ≡ s.by_guid
  pub ranges : u.ranges ≡ s.ranges
  pub next_file : u.next_file ≡ s.next_file
  pub directory : u.directory ≡ s.directory
  pub delete_pending : u.delete_pending ≡ s.delete_pending
  pub basic : u.basic ≡ s.basic
  pub content : u.content ≡ s.content
  pub expired_guids : u.expired_guids ≡ s.expired_guids
  pub expired_count : u.expired_count ≡ s.expired_count

carried_gone : (s u : Server) (f : ℕ) → Carried s u → Carried s (without_gone u f)
carried_gone s u f h =
    either (λ x. Carried s x) (goes u f) (remove_file u f) u
    (λ _. record {
      opens = h.opens;
      standing = h.standing;
      opened = h.opened;
      lock_sequences = h.lock_sequences;
      by_guid = h.by_guid;
      ranges = h.ranges;
      next_file = h.next_file;
      directory = h.directory;
      delete_pending = h.delete_pending;
      basic = h.basic;
      content = h.content;
      expired_guids = h.expired_guids;
      expired_count = h.expired_count;
    })
    (λ _. h)

carried_swept : (s u : Server) (es : List Entry) → Carried s u → Carried s (sweep u es)
unfolding sweep
carried_swept s u [] h = h
carried_swept s u (e ∷ es) h = carried_swept s (without_gone u e.file) es (carried_gone s u e.file h)

-- it is carried over into this epoch
pub record NextEpoch (s u : Server) (number : ℕ) : Type 0 where
  pub carried : Carried s u
  pub epoch : u.epoch ≡ number
  pub open_ids_given : u.open_ids_given ≡ 0
  pub session_ids_given : u.session_ids_given ≡ 0

same_test : (n m : ℕ) → n ≡ m → (n == m) ≡ true
same_test n m e = grind arith

epoch_begins : (s u : Server) (number : ℕ) → number ≡ u.epoch + 1 → Carried s u → NextEpoch s (begin_epoch u number) number
epoch_begins s u number e h =
    let c = carried_swept s u u.entries h in
    let step : begin_epoch u number ≡ record (sweep u u.entries) {
      epoch = number;
      open_ids_given = 0;
      session_ids_given = 0;
    } = rw (same_test number (u.epoch + 1) e) refl in
    subst (λ x. NextEpoch s x number) (sym step)
    (record {
      carried = record {
        opens = c.opens;
        standing = c.standing;
        opened = c.opened;
        lock_sequences = c.lock_sequences;
        by_guid = c.by_guid;
        ranges = c.ranges;
        next_file = c.next_file;
        directory = c.directory;
        delete_pending = c.delete_pending;
        basic = c.basic;
        content = c.content;
        expired_guids = c.expired_guids;
        expired_count = c.expired_count;
      };
      epoch = refl;
      open_ids_given = refl;
      session_ids_given = refl;
    })

carries_itself : (s : Server) → Carried s s
carries_itself s =
    record {
      opens = refl;
      standing = refl;
      opened = refl;
      lock_sequences = refl;
      by_guid = refl;
      ranges = refl;
      next_file = refl;
      directory = refl;
      delete_pending = refl;
      basic = refl;
      content = refl;
      expired_guids = refl;
      expired_count = refl;
    }

-- the version alone is raised
pub record Raised (s u : Server) : Type 0 where
  pub carried : Carried s u
  pub epoch : u.epoch ≡ s.epoch

version_raised : (s : Server) (number : ℕ) → Raised s (set_version s number)
version_raised s number =
    either (λ x. Raised s x) ((number == 2) && (s.version == 1)) (record s { version = 2 }) s
    (λ _. record {
      carried = record {
        opens = refl;
        standing = refl;
        opened = refl;
        lock_sequences = refl;
        by_guid = refl;
        ranges = refl;
        next_file = refl;
        directory = refl;
        delete_pending = refl;
        basic = refl;
        content = refl;
        expired_guids = refl;
        expired_count = refl;
      };
      epoch = refl;
    })
    (λ _. record { carried = carries_itself s; epoch = refl })

recovers_epoch : (d : Server) → NextEpoch d (fold_from d (epoch_records d)) (d.epoch + 1)
unfolding fold_from
recovers_epoch d =
    let r = version_raised d 2 in
    either (λ rs. NextEpoch d (fold_from d rs) (d.epoch + 1)) (d.version == 1)
    (VersionRecord 2 ∷ EpochRecord (d.epoch + 1) ∷ []) (EpochRecord (d.epoch + 1) ∷ [])
    (λ _. epoch_begins d (set_version d 2) (d.epoch + 1) (sym (ap (λ n. n + 1) r.epoch)) r.carried)
    (λ _. epoch_begins d d (d.epoch + 1) refl (carries_itself d))

recovers_next : (d : Server) (n : ℕ) → d.epoch ≡ n → NextEpoch d (fold_from d (epoch_records d)) (n + 1)
recovers_next d n e = subst (λ i. NextEpoch d (fold_from d (epoch_records d)) (i + 1)) e (recovers_epoch d)

-- ---- and behind it marks are cleared

abbrev begun : List Record → Server
begun rs = fold_from (fold rs) (epoch_records (fold rs))

folded : (rs : List Record) → fold (rs ++ recovery_records rs) ≡ fold_from (begun rs) (unmark_records (begun rs) (begun rs).entries)
folded rs = fold_append nothing_yet rs (recovery_records rs)
    ∙ fold_append (fold rs) (epoch_records (fold rs)) (unmark_records (begun rs) (begun rs).entries)

unmarked : (rs : List Record) → Unmarked (begun rs) (fold (rs ++ recovery_records rs))
unmarked rs = let b = begun rs in subst (λ x. Unmarked b x) (sym (folded rs)) (unmarked_from b b b.entries (unmarked_itself b))

-- ---- the restart

pub restarted : (s : Server) (rs : List Record) → RecordRecovers rs s → Restarted s (recovered_from s rs)
restarted s rs h =
    let all = recovers_next (fold rs) s.epoch h.2.epoch in let c = all.carried in
    let marks = unmarked rs in let same = marks.same in let b = bare_fold (rs ++ recovery_records rs) in
    record {
      epoch = ap (λ (x : Server). x.epoch) same ∙ all.epoch;
      open_ids_given = ap (λ (x : Server). x.open_ids_given) same ∙ all.open_ids_given;
      session_ids_given = ap (λ (x : Server). x.session_ids_given) same ∙ all.session_ids_given;
      opens = ap (λ (x : Server). x.opens) same ∙ (c.opens ∙ h.1.opens);
      standing = λ o. ap (λ (x : Server). x.standing o) same ∙ (ap (λ (x : ℕ → Bool). x o) c.standing ∙ h.1.standing o);
      opened = λ o e. ap (λ (x : Server). x.opened o) same ∙ (ap (λ (x : ℕ → Open). x o) c.opened ∙ h.1.opened o e);
      lock_sequences = λ o i e. ap (λ (x : Server). x.lock_sequences o i) same
          ∙ (ap (λ (x : ℕ → ℕ → Option Kept). x o i) c.lock_sequences ∙ h.1.lock_sequences o i e);
      by_guid = λ p g. ap (λ (x : Server). x.by_guid p g) same ∙ (ap (λ (x : ℕ → ℕ → Option ℕ). x p g) c.by_guid ∙ h.1.by_guid p g);
      ranges = λ f. ap (λ (x : Server). x.ranges f) same ∙ (ap (λ (x : ℕ → List Range). x f) c.ranges ∙ h.1.ranges f);
      next_file = ap (λ (x : Server). x.next_file) same ∙ (c.next_file ∙ h.0.next_file);
      directory = ap (λ (x : Server). x.directory) same ∙ (c.directory ∙ h.0.directory);
      delete_pending = λ f e. sym (ap (λ (x : ℕ → Bool). x f) (c.delete_pending ∙ h.0.delete_pending)) ∙ marks.fewer f e;
      basic = ap (λ (x : Server). x.basic) same ∙ (c.basic ∙ h.0.basic);
      content = ap (λ (x : Server). x.content) same ∙ (c.content ∙ h.0.content);
      expired_guids = ap (λ (x : Server). x.expired_guids) same ∙ (c.expired_guids ∙ h.2.expired_guids);
      expired_count = ap (λ (x : Server). x.expired_count) same ∙ (c.expired_count ∙ h.2.expired_count);
      bare = b;
    }

-- ---- its entries

both_of : (x y : Bool) → (x && y) ≡ true → x ≡ true × y ≡ true
both_of x y e = (grind arith, grind arith)

open_there : (d s : Server) (o : ℕ) → Listed s → RecordOpens d s → staying s.standing s.opened o ≡ true
    → file_has_open d (s.opened o).file ≡ true
unfolding file_has_open
open_there d s o l h stays =
    let t = both_of (s.standing o) (s.opened o).persistent stays in
    let there = ap (has o) h.opens ∙ has_persistent s.opened o s.opens ∙ both (has o s.opens) (s.opened o).persistent (l o ∙ t.0) t.1 in
    subst (λ (r : Open). is_filled (opens_in d.opened d.opens r.file) ≡ true) (h.opened o stays) (has_file d.opened o d.opens there)

stays_not_pending : (m o : Bool) → m ≡ false → (m && not o) ≡ false
stays_not_pending m o e = grind arith

stays_opened : (m o : Bool) → o ≡ true → (m && not o) ≡ false
stays_opened m o e = grind arith

-- the file of an open that stays has an open behind the epoch too
opened_behind : (d b : Server) (f : ℕ) → Carried d b → file_has_open d f ≡ true → file_has_open b f ≡ true
unfolding file_has_open
opened_behind d b f c h = subst (λ (os : List ℕ). is_filled (opens_in b.opened os f) ≡ true) (sym c.opens)
    (subst (λ (rows : ℕ → Open). is_filled (opens_in rows d.opens f) ≡ true) (sym c.opened) h)

same_opened : (b u : Server) (p : ℕ → Bool) (f : ℕ) → u ≡ record b { delete_pending = p } → file_has_open b f ≡ true → file_has_open u f ≡ true
unfolding file_has_open
same_opened b u p f same h = ap (λ (x : Server). is_filled (opens_in x.opened x.opens f)) same ∙ h

left_from : (s : Server) (rs : List Record) → Listed s → RootStays s → Files (fold rs) s → RecordOpens (fold rs) s
    → EntriesLeft s (fold (rs ++ recovery_records rs))
left_from s rs l stays_there f h =
    let d = fold rs in let b = begun rs in let c = (recovers_next d d.epoch refl).carried in
    let marks = unmarked rs in let same : (fold (rs ++ recovery_records rs)).entries ≡ b.entries = ap (λ (x : Server). x.entries) marks.same in
    let pends : b.delete_pending ≡ s.delete_pending = c.delete_pending ∙ f.delete_pending in
    record {
      were = λ g e. let t = left_behind d d g (ap (λ es. exists_in es g) (sym same) ∙ e) in (
        ap (λ es. exists_in es g) (sym f.entries) ∙ t.0,
        ap (λ es. path_in es g) same ∙ (t.1 ∙ ap (λ es. path_in es g) f.entries),
      );
      not_pending = λ g m. ap (λ es. exists_in es g) same ∙ (held_behind d d g (stays_not_pending (d.delete_pending g) (file_has_open d g)
          (ap (λ (x : ℕ → Bool). x g) f.delete_pending ∙ m)) ∙ ap (λ es. exists_in es g) f.entries);
      held = λ o stays. let g = (s.opened o).file in ap (λ es. exists_in es g) same
          ∙ (held_behind d d g (stays_opened (d.delete_pending g) (file_has_open d g) (open_there d s o l h stays))
          ∙ ap (λ es. exists_in es g) f.entries);
      held_pending = λ o stays. let g = (s.opened o).file in
          marks.held g (opened_behind d b g c (open_there d s o l h stays)) ∙ ap (λ (x : ℕ → Bool). x g) pends;
      opened = λ g e m. same_opened b (fold (rs ++ recovery_records rs)) (fold (rs ++ recovery_records rs)).delete_pending g marks.same
          (pending_opened b g (ap (λ (x : ℕ → Bool). x 0) pends ∙ stays_there) (ap (λ es. exists_in es g) (sym same) ∙ e)
          (ap (λ (x : Server). x.delete_pending g) (sym (folded rs)) ∙ m));
    }

pub entries_left : (s : Server) (rs : List Record) → Listed s → RootStays s → RecordRecovers rs s → EntriesLeft s (recovered_from s rs)
unfolding file_has_open
entries_left s rs l stays h =
    let t = left_from s rs l stays h.0 h.1 in
    record { were = t.were; not_pending = t.not_pending; held = t.held; held_pending = t.held_pending; opened = t.opened }

-- ---- what the laws above ask of it

-- what a guid names behind it, it named before, and that open stays
named_by : (p : ℕ → Bool) (x : Option ℕ) (o : ℕ) → kept_guid p x ≡ Some o → x ≡ Some o × p o ≡ true
named_by p None o e = absurd (cc)
named_by p (Some a) o e = elim (p a) as (λ b. p a ≡ b → (if b then Some a else None) ≡ Some o → Some a ≡ Some o × p o ≡ true) [
  | true ↦ λ q f. (f, subst (λ x. p x ≡ true) (some_same a o f) q)
  | false ↦ λ q f. absurd (cc)
] refl e
  where
    some_same : (x y : ℕ) → Some x ≡ Some y → x ≡ y
    some_same x y f = cc

names_by : (p : ℕ → Bool) (x : Option ℕ) (o : ℕ) → x ≡ Some o → p o ≡ true → kept_guid p x ≡ Some o
names_by p x o e f = rw (e, f) refl

pub was_named : (s u : Server) → Restarted s u → (c g o : ℕ) → u.by_guid c g ≡ Some o → s.by_guid c g ≡ Some o
    × staying s.standing s.opened o ≡ true
was_named s u r c g o e = named_by (staying s.standing s.opened) (s.by_guid c g) o (sym (r.by_guid c g) ∙ e)

pub stays_named : (s u : Server) → Restarted s u → (c g o : ℕ) → s.by_guid c g ≡ Some o → staying s.standing s.opened o
    ≡ true → u.by_guid c g ≡ Some o
stays_named s u r c g o e stays = r.by_guid c g ∙ names_by (staying s.standing s.opened) (s.by_guid c g) o e stays

-- what stands behind it stood, is persistent and has its row
pub stood : (s u : Server) → Restarted s u → (o : ℕ) → u.standing o ≡ true → s.standing o ≡ true
    × (s.opened o).persistent ≡ true × u.opened o ≡ s.opened o
stood s u r o e =
    let stays = sym (r.standing o) ∙ e in let t = both_of (s.standing o) (s.opened o).persistent stays in (t.0, t.1, r.opened o stays)

-- ids go on above those that were given
pub ids_above : (s u : Server) → Restarted s u → s.open_ids_given ≤ max_ids → id_of s.epoch s.open_ids_given ≤ id_of
    u.epoch u.open_ids_given
ids_above s u r few = let e = r.epoch in let g = r.open_ids_given in omega arith

pub sessions_above : (s u : Server) → Restarted s u → s.session_ids_given ≤ max_ids → id_of s.epoch s.session_ids_given
    ≤ id_of u.epoch u.session_ids_given
sessions_above s u r few = let e = r.epoch in let g = r.session_ids_given in omega arith
