-- Locks: the slot and the ranges of an open that stays, in both states.
use Rattle.std.proofs.Common.{◌≡◌, ◌≢◌, ℕ, ◌==◌, nat_le, Bool, true, false, not, ◌||◌, if◌then◌else◌, List, [], ◌∷◌}
use Rattle.std.proofs.Common.{refl, arith, sym, subst, ◌∙◌, ap, Option, Some}
use Rattle.spec_exchange.specs.Table.{put, put2}
use Rattle.spec_exchange.specs.Status.{success}
use Rattle.spec_exchange.specs.Commands.{Element, all_lock, all_unlock}
use Rattle.spec_exchange.specs.State.{Server, Message, Open, Range, Kept, Origin, LockRecord}
use Rattle.spec_exchange.specs.Ranges.{Stands, change_ranges}
use Rattle.spec_exchange.specs.CheckOpen.{is_slot, file_of}
use Rattle.spec_exchange.specs.Records.{origin_of}
use Rattle.spec_exchange.specs.Effects.{keep_slot, set_ranges, recorded_index, lock_records}
use Rattle.spec_exchange.specs.Fold.{with_record, fold_from, lock_granted}
use Rattle.law_server.proofs.tables.Logic.{either, both, back_of}
use Rattle.law_records.specs.recovery.Recovers.{staying, kept_ranges, Mirrors}
use Rattle.law_records.proofs.recovery.Ranges.{changed_kept, changed_plain}

-- ---- slots

slots_plain : (p : ℕ → Bool) (dsl slots : ℕ → ℕ → Option Kept) (o index : ℕ) (v : Option Kept) → p o ≡ false
    → ((x i : ℕ) → p x ≡ true → dsl x i ≡ slots x i) → (x i : ℕ) → p x ≡ true → dsl x i ≡ put2 slots o index v x i
slots_plain p dsl slots o index v plain h x i e = let old = h x i e in grind arith

slots_both : (p : ℕ → Bool) (dsl slots : ℕ → ℕ → Option Kept) (o index : ℕ) (v : Option Kept)
    → ((x i : ℕ) → p x ≡ true → dsl x i ≡ slots x i) → (x i : ℕ) → p x ≡ true → put2 dsl o index v x i
    ≡ put2 slots o index v x i
slots_both p dsl slots o index v h x i e = let old = h x i e in grind arith

pub keeps_slot_plain : (d s : Server) (o index number status : ℕ) → staying s.standing s.opened o ≡ false → Mirrors d s
    → Mirrors d (keep_slot s o index number status)
keeps_slot_plain d s o index number status plain h =
    either (λ x. Mirrors d x) (is_slot index) _ s
    (λ _. (
      h.0,
      record {
        opens = h.1.opens;
        standing = h.1.standing;
        opened = h.1.opened;
        lock_sequences = slots_plain (staying s.standing s.opened) d.lock_sequences s.lock_sequences o index
            (Some (record { number = number; status = status })) plain h.1.lock_sequences;
        by_guid = h.1.by_guid;
        ranges = h.1.ranges;
      },
      h.2,
    ))
    (λ _. h)

keeps_slot_at : (d s : Server) (o index number status : ℕ) → Mirrors d s → (b : Bool) → is_slot index ≡ b
    → Mirrors (keep_slot d o (if b then index else 0) number status) (keep_slot s o index number status)
keeps_slot_at d s o index number status h true e =
    rw e (
      h.0,
      record {
        opens = h.1.opens;
        standing = h.1.standing;
        opened = h.1.opened;
        lock_sequences = slots_both (staying s.standing s.opened) d.lock_sequences s.lock_sequences o index
            (Some (record { number = number; status = status })) h.1.lock_sequences;
        by_guid = h.1.by_guid;
        ranges = h.1.ranges;
      },
      h.2,
    )
keeps_slot_at d s o index number status h false e = rw e h

pub keeps_slot : (d s : Server) (o index number status : ℕ) → Mirrors d s
    → Mirrors (keep_slot d o (recorded_index index) number status) (keep_slot s o index number status)
keeps_slot d s o index number status h = keeps_slot_at d s o index number status h (is_slot index) refl

-- ---- ranges

ranges_plain : (p : ℕ → Bool) (drs rs : ℕ → List Range) (f : ℕ) (out : List Range) → kept_ranges p out
    ≡ kept_ranges p (rs f) → ((k : ℕ) → drs k ≡ kept_ranges p (rs k)) → (k : ℕ) → drs k ≡ kept_ranges p (put rs f out k)
ranges_plain p drs rs f out same h k = let old = h k in grind arith

ranges_both : (p : ℕ → Bool) (drs rs : ℕ → List Range) (f : ℕ) (out : List Range)
    → ((k : ℕ) → drs k ≡ kept_ranges p (rs k)) → (k : ℕ) → put drs f (kept_ranges p out) k
    ≡ kept_ranges p (put rs f out k)
ranges_both p drs rs f out h k = let old = h k in grind arith

pub sets_ranges_plain : (d s : Server) (o : ℕ) (es : List Element) (out : List Range) → staying s.standing s.opened o
    ≡ false → change_ranges (s.ranges (file_of s o)) o es ≡ Stands out → Mirrors d s
    → Mirrors d (set_ranges s (file_of s o) out)
sets_ranges_plain d s o es out plain stands h = (
  h.0,
  record {
    opens = h.1.opens;
    standing = h.1.standing;
    opened = h.1.opened;
    lock_sequences = h.1.lock_sequences;
    by_guid = h.1.by_guid;
    ranges = ranges_plain (staying s.standing s.opened) d.ranges s.ranges (file_of s o) out
        (changed_plain (staying s.standing s.opened) o es (s.ranges (file_of s o)) out plain stands) h.1.ranges;
  },
  h.2,
)

pub sets_ranges : (d s : Server) (f : ℕ) (out : List Range) → Mirrors d s
    → Mirrors (set_ranges d f (kept_ranges (staying s.standing s.opened) out)) (set_ranges s f out)
sets_ranges d s f out h = (
  h.0,
  record {
    opens = h.1.opens;
    standing = h.1.standing;
    opened = h.1.opened;
    lock_sequences = h.1.lock_sequences;
    by_guid = h.1.by_guid;
    ranges = ranges_both (staying s.standing s.opened) d.ranges s.ranges f out h.1.ranges;
  },
  h.2,
)

-- ---- the record

index_fits : (index : ℕ) → nat_le (recorded_index index) 64 ≡ true
index_fits index = either (λ x. nat_le x 64 ≡ true) (is_slot index) index 0 (λ e. back_of (nat_le 1 index) (nat_le index 64) e) (λ _. refl)

not_both : (x : Bool) → x ≡ true → not x ≡ false
not_both x e = grind arith

other : (x y : ℕ) → x ≢ y → (x == y) ≡ false
other x y n = grind arith

-- a lock's record is taken where its open stays
taken : (d : Server) (origin : Origin) (o index number status : ℕ) (es : List Element) → d.standing o ≡ true
    → (all_lock es || all_unlock es) ≡ true
    → with_record d (LockRecord origin o (recorded_index index) number status es)
    ≡ (if status == success then lock_granted d o (recorded_index index) number
    (change_ranges (d.ranges (file_of d o)) o es) else keep_slot d o (recorded_index index) number status)
taken d origin o index number status es stands kind = rw (
  both (d.standing o) (nat_le (recorded_index index) 64) stands
      (index_fits index),
  kind,
) refl

pub slot_recorded : (d s : Server) (origin : Origin) (o index number status : ℕ) (es : List Element)
    → staying s.standing s.opened o ≡ true → (all_lock es || all_unlock es) ≡ true → status ≢ success → Mirrors d s
    → Mirrors (with_record d (LockRecord origin o (recorded_index index) number status es)) (keep_slot s o index number status)
slot_recorded d s origin o index number status es stays kind denied h =
    subst (λ x. Mirrors x (keep_slot s o index number status)) (sym (taken d origin o index number status es (h.1.standing o ∙ stays) kind))
    (rw (other status success denied) (keeps_slot d s o index number status h))

pub ranges_recorded : (d s : Server) (origin : Origin) (o index number : ℕ) (out : List Range) (es : List Element)
    → staying s.standing s.opened o ≡ true → (all_lock es || all_unlock es) ≡ true
    → change_ranges (s.ranges (file_of s o)) o es ≡ Stands out → Mirrors d s
    → Mirrors (with_record d (LockRecord origin o (recorded_index index) number success es))
    (keep_slot (set_ranges s (file_of s o) out) o index number success)
ranges_recorded d s origin o index number out es stays kind stands h =
    let p = staying s.standing s.opened in
    let granted : change_ranges (d.ranges (file_of s o)) o es ≡ Stands (kept_ranges p out) =
    rw (h.1.ranges (file_of s o)) (changed_kept p o es (s.ranges (file_of s o)) out stays stands) in
    let same : file_of d o ≡ file_of s o = ap (λ (r : Open). r.file) (h.1.opened o stays) in
    let granted_here : change_ranges (d.ranges (file_of d o)) o es ≡ Stands (kept_ranges p out) = rw same granted in
    subst (λ x. Mirrors x (keep_slot (set_ranges s (file_of s o) out) o index number success))
    (sym (taken d origin o index number success es (h.1.standing o ∙ stays) kind))
    (rw (granted_here, same) (keeps_slot (set_ranges d (file_of s o) (kept_ranges p out))
    (set_ranges s (file_of s o) out) o index number success (sets_ranges d s (file_of s o) out h)))

-- ---- what the server owes for it

abbrev pub LockKind : List Element → Type 0
LockKind es = (all_lock es || all_unlock es) ≡ true

staying_of : (s : Server) (o : ℕ) (b : Bool) → s.standing o ≡ true → (s.opened o).persistent ≡ b → staying s.standing s.opened o ≡ b
staying_of s o b stands e = grind arith

pub slot_kept : (d s : Server) (m : Message) (o index number status : ℕ) (es : List Element) → s.standing o ≡ true
    → LockKind es → status ≢ success → Mirrors d s
    → Mirrors (fold_from d (lock_records s m o index number status es)) (keep_slot s o index number status)
unfolding lock_records fold_from
slot_kept d s m o index number status es stands kind denied h =
    elim (s.opened o).persistent as (λ b. (s.opened o).persistent ≡ b
    → Mirrors (fold_from d (if b then LockRecord (origin_of m) o (recorded_index index) number status es ∷ [] else
    [])) (keep_slot s o index number status)) [
      | true ↦ λ e. slot_recorded d s (origin_of m) o index number status es (staying_of s o true stands e) kind denied h
      | false ↦ λ e. keeps_slot_plain d s o index number status (staying_of s o false stands e) h
    ] refl

pub ranges_put : (d s : Server) (m : Message) (o index number : ℕ) (out : List Range) (es : List Element) → s.standing o
    ≡ true → LockKind es → change_ranges (s.ranges (file_of s o)) o es ≡ Stands out → Mirrors d s
    → Mirrors (fold_from d (lock_records s m o index number success es)) (keep_slot (set_ranges s (file_of s o) out) o index number success)
unfolding lock_records fold_from
ranges_put d s m o index number out es stands kind grants h =
    elim (s.opened o).persistent as (λ b. (s.opened o).persistent ≡ b
    → Mirrors (fold_from d (if b then LockRecord (origin_of m) o (recorded_index index) number success es ∷ [] else []))
    (keep_slot (set_ranges s (file_of s o) out) o index number success)) [
      | true ↦ λ e. ranges_recorded d s (origin_of m) o index number out es (staying_of s o true stands e) kind grants h
      | false ↦ λ e. let plain = staying_of s o false stands e in
          keeps_slot_plain d (set_ranges s (file_of s o) out) o index number success plain (sets_ranges_plain d s o es out plain grants h)
    ] refl
