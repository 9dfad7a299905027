-- What a crash at any moment of an event leaves.
use Rattle.std.proofs.Common.{◌≡◌, ◌⊎◌, inl, inr, ℕ, List, refl, sym, ap, subst, arith, ◌∙◌}
use Rattle.spec_exchange.specs.State as model
use Rattle.spec_exchange.specs.Step.{step}
use Rattle.spec_journal.specs.Forms.{StandsFor}
use Rattle.spec_wire.specs.journal.Moments.{LeavesOnly}
use Rattle.journal.specs.disk_journal.Journal.{JournalState, OnlyRoom, JournalSettled}
use Rattle.journal_bytes.specs.record_bodies.Body.{IsBodyOf, bodies_of}
use Rattle.server_core.specs.journaled_tables.Holds.{EventLeavesBodies}
use Rattle.server_core.specs.body_writing.Bodies.{LeavesOf}
use Rattle.spec_world.specs.Lacking.{Expires, alone_records}

-- what may be left of less may be left of more
pub leaves_more : {D : Type 0} (moment : D → ℕ) (left_since : D → ℕ → List ℕ → Type 0) (old new : D) (P Q : List ℕ → Type 0)
    → ((c : List ℕ) → P c → Q c) → LeavesOnly moment left_since old new P → LeavesOnly moment left_since old new Q
leaves_more moment left_since old new P Q f h = record {
  later = h.later;
  each = λ c left. f c (h.each c left);
  before = λ t c le left. by c (h.before t c le left);
}
  where
    by : {L : Type 0} (c : List ℕ) → L ⊎ P c → L ⊎ Q c
    by c (inl l) = inl l
    by c (inr p) = inr (f c p)

-- the event's body, or that of an expiry alone
pub by_event : (s : model.Server) (now : ℕ) (ev : model.ServerEvent) (bodies : List (List ℕ)) (body : List ℕ)
    → IsBodyOf body (step s now ev).records → (c : List ℕ) → LeavesOf bodies body c → EventLeavesBodies s now ev bodies c
by_event s now ev bodies body b c (inl h) = inl h
by_event s now ev bodies body b c (inr h) = inr (inl (bodies_of body, (body, b, refl), h))

pub by_expiry : (s : model.Server) (now : ℕ) (ev : model.ServerEvent) (bodies : List (List ℕ)) (front : List ℕ) (o : ℕ) (t : model.Server)
    → Expires s now ev t o → IsBodyOf front (alone_records s now ev o) → (c : List ℕ) → LeavesOf bodies front c
    → EventLeavesBodies s now ev bodies c
by_expiry s now ev bodies front o t x b c (inl h) = inl h
by_expiry s now ev bodies front o t x b c (inr h) = inr (inr (o, t, bodies_of front, x, (front, b, refl), h))

-- ---- nothing was written

stands : {D : Type 0} (seen : D → List ℕ) (may_leave : D → List ℕ → Type 0) (j : JournalState D) (bodies : List (List ℕ))
    → JournalSettled seen may_leave j bodies → (c : List ℕ) → may_leave j.disk c → StandsFor c bodies
stands seen may_leave j bodies s c left = inr (record {
  form = j.form;
  gate = s.gate;
  rest = s.rest;
  spelled = s.durable c left ∙ s.file;
  closed = s.closed;
  fit = s.fit;
})

pub nothing_left : {D : Type 0} (seen : D → List ℕ) (may_leave : D → List ℕ → Type 0) (moment : D → ℕ)
    (left_since : D → ℕ → List ℕ → Type 0) (only_now : (d : D) (c : List ℕ) → left_since d (moment d) c → may_leave d c)
    (s : model.Server) (now : ℕ) (ev : model.ServerEvent) (j : JournalState D) (d : D) (bodies : List (List ℕ)) → d ≡ j.disk
    → JournalSettled seen may_leave j bodies → LeavesOnly moment left_since j.disk d (EventLeavesBodies s now ev bodies)
nothing_left {D} seen may_leave moment left_since only_now s now ev j d bodies e h =
    subst (λ (k : D). LeavesOnly moment left_since j.disk k (EventLeavesBodies s now ev bodies)) (sym e) (record {
      later = omega arith;
      each = λ c left. inl (stands seen may_leave j bodies h c (only_now j.disk c left));
      before = λ t c le left. inl left;
    })

pub same_disk : {D : Type 0} (old mid : JournalState D) → OnlyRoom old mid → mid.disk ≡ old.disk
same_disk {D} old mid o = ap (λ (j : JournalState D). j.disk) o.0

pub same_faults : {D : Type 0} (faults : D → ℕ) (old mid : JournalState D) → OnlyRoom old mid → faults mid.disk ≡ faults old.disk
same_faults faults old mid o = ap faults (same_disk old mid o)

pub room_back : {D : Type 0} (old mid new : JournalState D) → OnlyRoom old mid → new ≡ mid → OnlyRoom old new
room_back {D} old mid new o e = subst (λ (j : JournalState D). OnlyRoom old j) (sym e) o

-- a run that began on the same disk
pub since_same : {D : Type 0} (moment : D → ℕ) (left_since : D → ℕ → List ℕ → Type 0) (old mid : JournalState D) (new : D)
    (P : List ℕ → Type 0) → OnlyRoom old mid → LeavesOnly moment left_since mid.disk new P → LeavesOnly moment left_since old.disk new P
since_same {D} moment left_since old mid new P o h = subst (λ (d : D). LeavesOnly moment left_since d new P)
    (ap (λ (j : JournalState D). j.disk) o.0) h
