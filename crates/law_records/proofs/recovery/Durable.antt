-- A state that mirrors another mirrors itself, and has the same durable part.
use Rattle.std.proofs.Common.{◌≡◌, ℕ, ◌+◌, ◌≤◌, ◌==◌, Bool, true, false, not, ◌&&◌, if◌then◌else◌, List, [], ◌∷◌, ◌++◌, refl}
use Rattle.std.proofs.Common.{arith, sym, subst, ◌∙◌, ap, Option, Some, None}
use Rattle.spec_exchange.specs.Table.{has}
use Rattle.spec_exchange.specs.State.{Server, Open, Kept, Record, VersionRecord, EpochRecord, DeleteRecord, Entry}
use Rattle.spec_exchange.specs.Files.{root, exists, remove_file, set_delete_pending}
use Rattle.spec_exchange.specs.Records.{origin_at, entry_bytes}
use Rattle.spec_exchange.specs.Opens.{goes, without_gone}
use Rattle.spec_exchange.specs.Fold.{nothing_yet, no_open, full_room, persistent_in, stays, stays_by_guid}
use Rattle.spec_exchange.specs.Fold.{ranges_that_stay, durable, fold, fold_from, sweep, begin_epoch, set_version}
use Rattle.spec_exchange.specs.Fold.{recovery_records, recovered_from, opening_records, epoch_records, with_record, is_left_pending, mark_records, unmark_records}
use Rattle.law_server.specs.tables.Fits.{Listed}
use Rattle.law_server.proofs.tables.Logic.{either, both, back_of}
use Rattle.law_records.specs.recovery.Recovers.{staying, kept_ranges, kept_guid, RecordOpens, Mirrors, RecordRecovers}
use Rattle.law_records.proofs.recovery.Lists.{ext, ext2, at_head, in_tail}
use Rattle.law_records.proofs.recovery.Ranges.{kept_that_stay, kept_twice}
use Rattle.law_records.proofs.recovery.Leaves.{fold_append}

-- ---- the same opens stay

stays_by : (dst sst : Bool) (row its : Open) → dst ≡ sst → (sst ≡ true → row ≡ its)
    → (sst ≡ true → its.persistent ≡ true) → (dst && row.persistent) ≡ sst
stays_by dst true row its e f g = let r = f refl in let p = g refl in grind arith
stays_by dst false row its e f g = grind arith

pub same_stays : (d s : Server) → RecordOpens d s → (o : ℕ) → staying d.standing d.opened o ≡ staying s.standing s.opened o
same_stays d s h o = stays_by (d.standing o) (staying s.standing s.opened o) (d.opened o) (s.opened o) (h.standing o)
    (h.opened o) (back_of (s.standing o) (s.opened o).persistent)

guid_twice : (p : ℕ → Bool) (x : Option ℕ) → kept_guid p (kept_guid p x) ≡ kept_guid p x
guid_twice p None = refl
guid_twice p (Some o) = elim (p o) as (λ b. p o ≡ b → kept_guid p (if b then Some o else None) ≡ (if b then Some o else None)) [
  | true ↦ λ e. rw e refl
  | false ↦ λ e. refl
] refl

guid_stays : (s : Server) (x : Option ℕ) → stays_by_guid s x ≡ kept_guid (staying s.standing s.opened) x
guid_stays s None = refl
guid_stays s (Some o) = refl

rows_agree : (rows opened : ℕ → Open) (os : List ℕ) → ((o : ℕ) → has o os ≡ true → (opened o).persistent ≡ true → rows o
    ≡ opened o) → persistent_in rows (persistent_in opened os) ≡ persistent_in opened os
unfolding persistent_in
rows_agree rows opened [] h = refl
rows_agree rows opened (x ∷ xs) h = let here = h x (at_head x xs) in let rest = rows_agree rows opened xs
    (λ o e. h o (in_tail o x xs e)) in grind arith

pub same_opens : (d s : Server) → Listed s → RecordOpens d s → persistent_in d.opened d.opens ≡ persistent_in s.opened s.opens
same_opens d s l h =
    ap (persistent_in d.opened) h.opens ∙ rows_agree d.opened s.opened s.opens
    (λ o e p. h.opened o (both (s.standing o) (s.opened o).persistent (sym (l o) ∙ e) p))

pub mirrors_itself : (d s : Server) → Listed s → RecordOpens d s → RecordOpens d d
mirrors_itself d s l h =
    let p = staying s.standing s.opened in let q = staying d.standing d.opened in let same = ext q p (same_stays d s h) in
    record {
      opens = h.opens ∙ sym (same_opens d s l h);
      standing = λ o. h.standing o ∙ sym (same_stays d s h o);
      opened = λ o e. refl;
      lock_sequences = λ o i e. refl;
      by_guid = λ c g. h.by_guid c g ∙ sym (guid_twice p (s.by_guid c g)) ∙ sym (ap (kept_guid p) (h.by_guid c g))
          ∙ sym (ap (λ t. kept_guid t (d.by_guid c g)) same);
      ranges = λ f. h.ranges f ∙ sym (kept_twice p (s.ranges f)) ∙ sym (ap (kept_ranges p) (h.ranges f))
          ∙ sym (ap (λ t. kept_ranges t (d.ranges f)) same);
    }

-- ---- the durable part

row_same : (a b : Bool) (x y : Open) → a ≡ b → (b ≡ true → x ≡ y) → (if a then x else no_open) ≡ (if b then y else no_open)
row_same a true x y e f = rw e (f refl)
row_same a false x y e f = rw e refl

slot_same : (a b : Bool) (x y : Option Kept) → a ≡ b → (b ≡ true → x ≡ y) → (if a then x else None) ≡ (if b then y else None)
slot_same a true x y e f = rw e (f refl)
slot_same a false x y e f = rw e refl

pub same_durable : (d s : Server) → Listed s → Mirrors d s → durable d ≡ durable s
same_durable d s l h =
    let p = staying s.standing s.opened in let q = staying d.standing d.opened in let each = same_stays d s h.1 in
    let same = ext q p each in
    let own = mirrors_itself d s l h.1 in
    let ranges = ext (λ f. ranges_that_stay d (d.ranges f)) (λ f. ranges_that_stay s (s.ranges f))
    (λ f. kept_that_stay d (d.ranges f) ∙ sym (own.ranges f) ∙ h.1.ranges f ∙ sym (kept_that_stay s (s.ranges f)))
    in
    let opens = same_opens d s l h.1 in
    let standing = ext (λ o. stays d o) (λ o. stays s o) each in
    let opened = ext (λ o. if stays d o then d.opened o else no_open) (λ o. if stays s o then s.opened o else no_open)
    (λ o. row_same (stays d o) (stays s o) (d.opened o) (s.opened o) (each o) (h.1.opened o)) in
    let slots = ext2 (λ o i. if stays d o then d.lock_sequences o i else None)
    (λ o i. if stays s o then s.lock_sequences o i else None) (λ o i. slot_same (stays d o) (stays s o)
    (d.lock_sequences o i) (s.lock_sequences o i) (each o) (h.1.lock_sequences o i)) in
    let by_guid = ext2 (λ c g. stays_by_guid d (d.by_guid c g)) (λ c g. stays_by_guid s (s.by_guid c g))
    (λ c g. guid_stays d (d.by_guid c g) ∙ sym (own.by_guid c g) ∙ h.1.by_guid c g
    ∙ sym (guid_stays s (s.by_guid c g))) in
    λ t. record nothing_yet {
      version = h.2.version t;
      epoch = h.2.epoch t;
      entries = h.0.entries t;
      next_file = h.0.next_file t;
      directory = h.0.directory t;
      delete_pending = h.0.delete_pending t;
      basic = h.0.basic t;
      content = h.0.content t;
      ranges = ranges t;
      opens = opens t;
      standing = standing t;
      opened = opened t;
      lock_sequences = slots t;
      by_guid = by_guid t;
      expired_guids = h.2.expired_guids t;
      expired_count = h.2.expired_count t;
    }

-- ---- restart

-- what recovery begins with: a fold's opens are persistent, and its room is the whole
abbrev pub Own : Server → Type 0
Own d = RecordOpens d d × d.room ≡ full_room

own_swept : (d : Server) (es : List Entry) → Own d → Own (sweep d es)
unfolding sweep
own_swept d [] h = h
own_swept d (e ∷ es) h = own_swept (without_gone d e.file) es
    (either (λ x. Own x) (goes d e.file) (remove_file d e.file) d (λ _. h) (λ _. h))

own_epoch : (d : Server) (number : ℕ) → Own d → Own (begin_epoch d number)
own_epoch d number h =
    either (λ x. Own x) (number == d.epoch + 1) (record (sweep d d.entries) {
      epoch = number;
      open_ids_given = 0;
      session_ids_given = 0;
    }) d (λ _. own_swept d d.entries h) (λ _. h)

own_version : (d : Server) (number : ℕ) → Own d → Own (set_version d number)
own_version d number h = either (λ x. Own x) ((number == 2) && (d.version == 1)) (record d { version = 2 }) d (λ _. h) (λ _. h)

own_marked : (d s : Server) (es : List Entry) → Own d → Own (fold_from d (unmark_records s es))
unfolding fold_from unmark_records mark_records
own_marked d s [] h = h
own_marked d s (e ∷ es) h =
    either (λ rs. Own (fold_from d (rs ++ unmark_records s es))) (is_left_pending s e.file)
    (DeleteRecord (origin_at 0) e.file false ∷ []) []
    (λ _. own_marked (with_record d (DeleteRecord (origin_at 0) e.file false)) s es
    (either (λ x. Own x) (exists d e.file && not (e.file == root)) (set_delete_pending d e.file false) d (λ _. h) (λ _. h)))
    (λ _. own_marked d s es h)

own_begun : (d s : Server) → Own d → Own (fold_from d (epoch_records s))
unfolding fold_from
own_begun d s h =
    either (λ rs. Own (fold_from d rs)) (s.version == 1) (VersionRecord 2 ∷ EpochRecord (s.epoch + 1) ∷ []) (EpochRecord (s.epoch + 1) ∷ [])
    (λ _. own_epoch (set_version d 2) (s.epoch + 1) (own_version d 2 h))
    (λ _. own_epoch d (s.epoch + 1) h)

own_recovered : (d s : Server) → Own d → Own (fold_from d (opening_records s))
own_recovered d s h =
    let b = fold_from s (epoch_records s) in
    subst (λ x. Own x) (sym (fold_append d (epoch_records s) (unmark_records b b.entries)))
    (own_marked (fold_from d (epoch_records s)) b b.entries (own_begun d s h))

configured : (d s : Server) (journal : ℕ) → Own d → s.room ≤ full_room → Mirrors d (record d {
  share = s.share;
  room = s.room;
  encrypts = s.encrypts;
  address = s.address;
  journal = journal;
})
configured d s journal h fits = (
  record { entries = refl; next_file = refl; directory = refl; delete_pending = refl; basic = refl; content = refl },
  h.0,
  record {
    version = refl;
    epoch = refl;
    open_ids_given = omega arith;
    full = h.1;
    room = fits;
    expired_guids = refl;
    expired_count = refl;
  },
)

pub restarts : (s : Server) (rs : List Record) → Listed s → RecordRecovers rs s
    → RecordRecovers (rs ++ recovery_records rs) (recovered_from s rs)
restarts s rs l h =
    configured (fold (rs ++ recovery_records rs)) s (s.journal + entry_bytes (recovery_records rs))
    (subst (λ (x : Server). Own x) (sym (fold_append nothing_yet rs (recovery_records rs)))
    (own_recovered (fold rs) (fold rs) (mirrors_itself (fold rs) s l h.1, h.2.full))) h.2.room
