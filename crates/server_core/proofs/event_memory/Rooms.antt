-- The room for a body, and what stays of it where only room changes.
use Rattle.std.proofs.Common.{◌≡◌, ◌≤◌, ℕ, ◌+◌, ◌==◌, ◌||◌, nat_le, Bool, true, false, List, length, arith, inl, inr}
use Rattle.std.proofs.Common.{refl, sym, ap, subst, ◌∙◌}
use Rattle.std.proofs.lemmas.Bool.Decides.{nat_tests}
use Rattle.journal.specs.disk_journal.Journal.{Allows, JournalState, OnlyRoom}
use Rattle.journal_bytes.specs.record_bodies.Body.{fits_by}
use Rattle.server_checks.specs.declared.tables.Tables.{Tables}
use Rattle.server_core.specs.journaled_tables.Rooms.{HasRoomToWrite}
use Rattle.server_core.specs.declared.journaled_tables.state.ServerState.{ServerState}
use Rattle.server_plan.specs.reserving.Readies.{TablesKeep}
use Rattle.server_core.specs.body_writing.Bodies.{HasBodyRoom}

-- ---- a body that fits is small

within : (x n : ℕ) → nat_le x n ≡ true → x ≤ n
within x n e = grind (arith, nat_tests)

other : (b c : Bool) → b ≡ false → (b || c) ≡ true → c ≡ true
other true c e h = absurd (cc)
other false c e h = h

pub is_small : (used n : ℕ) → fits_by used n ≡ true → n ≤ 939524096
is_small used n h = by (n == 0) refl
  where
    none : (n == 0) ≡ true → n ≡ 0
    none e = grind (arith, nat_tests)

    by : (b : Bool) → (n == 0) ≡ b → n ≤ 939524096
    by true e = let z = none e in omega (arith, z)
    by false e =
        let f = within (used + 5 + n) 939524096 (other (n == 0) (nat_le (used + 5 + n) 939524096) e h) in omega (arith, f)

-- ---- room alone

allows_yet : {D : Type 0} (old new : JournalState D) (n : ℕ) → OnlyRoom old new → Allows old n false → Allows new n false
allows_yet {D} old new n o a = subst (λ (j : JournalState D). Allows j n false) (sym o.0) a

roomy_yet : {D : Type 0} (old new : JournalState D) (n : ℕ) → OnlyRoom old new → HasBodyRoom old n → HasBodyRoom new n
roomy_yet old new n o (inl z) = inl z
roomy_yet old new n o (inr r) = inr (allows_yet old new n o r.0, omega (arith, o.1, r.1))

fits_yet : (old new : Tables) (n : ℕ) → new.journal ≡ old.journal → fits_by old.journal n ≡ true → fits_by new.journal n ≡ true
fits_yet old new n k h = ap (λ (used : ℕ). fits_by used n) k ∙ h

pub room_yet : {D : Type 0} (old new : ServerState D) (body : List ℕ) → OnlyRoom old.journal new.journal
    → new.tables.journal ≡ old.tables.journal
    → HasRoomToWrite old body → HasRoomToWrite new body
room_yet old new body o k h = (
  roomy_yet old.journal new.journal (length body) o h.0,
  fits_yet old.tables new.tables (length body) k h.1,
)

-- what `reserve_body` says of so many bytes as the body has
pub has_room : {D : Type 0} (new : ServerState D) (used n : ℕ) (body : List ℕ) → HasBodyRoom new.journal n → n ≡ length body
    → fits_by used (length body) ≡ true → new.tables.journal ≡ used → HasRoomToWrite new body
has_room new used n body r e h k = (
  subst (λ (m : ℕ). HasBodyRoom new.journal m) e r,
  ap (λ (j : ℕ). fits_by j (length body)) k ∙ h,
)

pub tables_stay : (t : Tables) → TablesKeep t t
tables_stay t = record {
  config = refl;
  logons = λ keys pending h. h;
  room = λ h. h;
  undated = refl;
  journal = refl;
  version = refl;
}
