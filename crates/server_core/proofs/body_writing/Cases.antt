-- A body that is empty or not, and the journal's refusals.
use Rattle.std.proofs.Common.{◌≡◌, inl, inr, ℕ, ◌+◌, ◌≤◌, ◌<◌, false, List, [], ◌∷◌, ◌++◌, length}
use Rattle.std.proofs.Common.{refl, sym, ap, subst, arith, ◌∙◌}
use Rattle.std.specs.Prelude.{Err, None}
use Rattle.spec_journal.specs.Forms.{StandsFor}
use Rattle.spec_wire.specs.journal.Moments.{LeavesOnly}
use Rattle.journal.specs.disk_journal.Journal.{Allows, Appends, JournalState, OnlyRoom, Reserves, JournalSettled, journal_capped}
use Rattle.journal.specs.declared.disk_journal.journal.JournalError.{JournalError}
use Rattle.journal.specs.declared.disk_journal.journal.JournalError.TheVariants as causes
use Rattle.journal_bytes.specs.record_bodies.Body.{added_by, bodies_of}
use Rattle.server_core.specs.body_writing.Bodies.{HasBodyRoom, IsLack, LeavesOf, WritesBody, event_error_of}

-- ---- a body's length

pub is_nil : (xs : List ℕ) → length xs ≡ 0 → xs ≡ []
is_nil [] e = refl
is_nil (x ∷ xs) e = absurd (omega (arith, e))

pub one_body : (b : List ℕ) → 0 < length b → bodies_of b ≡ b ∷ []
one_body [] h = absurd (omega (arith, h))
one_body (c ∷ cs) h = refl

pub used_more : (old new : ℕ) (b : List ℕ) → 0 < length b → new ≡ old + 5 + length b → new ≡ old + added_by b
used_more old new [] h e = absurd (omega (arith, h))
used_more old new (c ∷ cs) h e = omega (arith, e)

pub none_used : (used : ℕ) (b : List ℕ) → b ≡ [] → used ≡ used + added_by b
none_used used b e = subst (λ (v : List ℕ). used ≡ used + added_by v) (sym e) (omega arith)

no_end : (bs : List (List ℕ)) → bs ≡ bs ++ []
no_end [] = refl
no_end (b ∷ bs) = ap (λ (v : List (List ℕ)). b ∷ v) (no_end bs)

pub none_more : (bs : List (List ℕ)) (b : List ℕ) → b ≡ [] → bs ≡ bs ++ bodies_of b
none_more bs b e = subst (λ (v : List ℕ). bs ≡ bs ++ bodies_of v) (sym e) (no_end bs)

-- ---- the room

at_most : (n : ℕ) → journal_capped n ≤ n
at_most n = grind arith

pub only_same : {D : Type 0} (old new : JournalState D) → new ≡ old → OnlyRoom old new
only_same old new e = subst (λ j. OnlyRoom old j) (sym e) (refl, omega arith)

pub allows_still : {D : Type 0} (old new : JournalState D) (n : ℕ) → OnlyRoom old new → Allows old n false → Allows new n false
allows_still old new n o a = subst (λ j. Allows j n false) (sym o.0) a

pub lacks : {D : Type 0} (old new : JournalState D) (n : ℕ) (error : JournalError) → Reserves old n false (Err error) new
    → IsLack old (event_error_of error)
lacks old new n causes.Memory r = tt
lacks old new n (causes.DiskFault count) r = absurd r
lacks old new n (causes.NotAJournal at) r = absurd r
lacks old new n (causes.Full would limit) r = tt
lacks old new n (causes.Stopped count) r = r.0

-- below the lower limit and with its memory at hand a body finds room in a journal that goes on
pub never_lacks : {D : Type 0} (old new : JournalState D) (n : ℕ) (error : JournalError) → Reserves old n false (Err error) new
    → old.stopped ≡ None → old.used + 5 + n ≤ 939524096 → n + 5 ≤ old.room → ⊥
never_lacks old new n causes.Memory r none fits room = omega (arith, r.1, room)
never_lacks old new n (causes.DiskFault count) r none fits room = r
never_lacks old new n (causes.NotAJournal at) r none fits room = r
never_lacks old new n (causes.Full would limit) r none fits room =
    omega (arith, r.1, r.2, r.3, fits, at_most (old.used + 5 + n))
never_lacks old new n (causes.Stopped count) r none fits room = let e = sym r.0 ∙ none in cc

pub room_alone : {D : Type 0} (old new : JournalState D) (n : ℕ) (error : JournalError) → Reserves old n false (Err error) new
    → OnlyRoom old new
room_alone old new n causes.Memory r = r.2
room_alone old new n (causes.DiskFault count) r = absurd r
room_alone old new n (causes.NotAJournal at) r = absurd r
room_alone old new n (causes.Full would limit) r = only_same old new r.4
room_alone old new n (causes.Stopped count) r = only_same old new r.1

-- ---- the write

-- with room for it a body that isn't empty is refused only by the disk
pub refused : {D : Type 0} (faults : D → ℕ) (old new : JournalState D) (b : List ℕ) (error : JournalError) → HasBodyRoom old (length b)
    → 0 < length b → Appends faults old b false (Err error) new → WritesBody faults old b (Err (event_error_of error)) new
refused faults old new b error (inl z) h a = absurd (omega (arith, z, h))
refused faults old new b causes.Memory (inr r) h a = absurd (omega (arith, r.1, a.1))
refused faults old new b (causes.DiskFault n) (inr r) h a = (a.3, a.1, a.2)
refused faults old new b (causes.NotAJournal at) (inr r) h a = absurd a
refused faults old new b (causes.Full would limit) (inr r) h a =
    absurd (omega (arith, r.0.1, a.1, a.2, a.3, at_most (old.used + 5 + length b)))
refused faults old new b (causes.Stopped n) (inr r) h a = absurd (let e = sym a.0 ∙ r.0.0 in cc)

-- ---- a crash where nothing is written

stands : {D : Type 0} (seen : D → List ℕ) (may_leave : D → List ℕ → Type 0) (j : JournalState D) (bodies : List (List ℕ))
    → JournalSettled seen may_leave j bodies → (c : List ℕ) → may_leave j.disk c → StandsFor c bodies
stands seen may_leave j bodies s c left = inr (record {
  form = j.form;
  gate = s.gate;
  rest = s.rest;
  spelled = s.durable c left ∙ s.file;
  closed = s.closed;
  fit = s.fit;
})

pub nothing_left : {D : Type 0} (seen : D → List ℕ) (may_leave : D → List ℕ → Type 0) (moment : D → ℕ)
    (left_since : D → ℕ → List ℕ → Type 0) (only_now : (d : D) (c : List ℕ) → left_since d (moment d) c → may_leave d c)
    (j : JournalState D) (bodies : List (List ℕ)) (b : List ℕ) → JournalSettled seen may_leave j bodies
    → LeavesOnly moment left_since j.disk j.disk (LeavesOf bodies b)
nothing_left seen may_leave moment left_since only_now j bodies b s = record {
  later = omega arith;
  each = λ c left. inl (stands seen may_leave j bodies s c (only_now j.disk c left));
  before = λ t c le left. inl left;
}
