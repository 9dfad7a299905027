-- What a crash leaves while a journal is mended.
use Rattle.std.proofs.Common.{◌≡◌, ◌⊎◌, inl, inr, ℕ, ◌+◌, ◌-◌, ◌≤◌, List, [], ◌∷◌, ◌++◌, length, take, refl, sym, ◌∙◌}
use Rattle.std.proofs.Common.{ap, subst, arith, append_assoc, length-append, Option, Some, None}
use Rattle.std.proofs.lemmas.List.{take_at}
use Rattle.base_outside.specs.streams.Disk.{CutShort, Follows, Only, Elapses}
use Rattle.spec_journal.specs.declared.form.Form.{Form}
use Rattle.spec_journal.specs.Forms.{BreaksAt, form_front, StandsFor}
use Rattle.spec_wire.specs.journal.Moments.{LeavesOnly, Quiet}
use Rattle.journal.specs.disk_journal.Entry.{ClosedAt, StaysClosed}
use Rattle.journal.specs.disk_journal.Read.{EndsWith}
use Rattle.journal.specs.disk_journal.Repair.{Examined, Mends}
use Rattle.journal.specs.declared.disk_journal.read.Found.{Found}
use Rattle.journal.specs.declared.disk_journal.read.Found.TheVariants.{Behind}
use Rattle.journal.proofs.disk_journal.Grown.{stands}
use Rattle.journal.proofs.disk_journal.Lists.{take_past}
use Rattle.journal.proofs.disk_journal.Meaning.{breaks_for_none, stands_for_one}
use Rattle.journal.proofs.disk_journal.Moments.{started, goes_on, joined, weakened}

module _ (front rest : List ℕ) (gate shut : ℕ) (bytes : List ℕ) (at_gate : ClosedAt gate front shut rest bytes) where
  head_long : length (front ++ shut ∷ []) ≡ gate + 1
  head_long = omega (arith, length-append front (shut ∷ []), at_gate.place)

  regrouped : bytes ≡ (front ++ shut ∷ []) ++ rest
  regrouped = at_gate.file ∙ sym (append_assoc front (shut ∷ []) rest)

  -- the closed gate stands in each outcome of the cut
  cut_closed : (c : List ℕ) → CutShort (gate + 1) bytes c → StaysClosed front c
  cut_closed c cut = elim cut.no_shorter [
    | inl long ↦
        let n = length c - (gate + 1) in
        record {
          gate = shut;
          rest = take n rest;
          file = sym cut.front ∙ ap (λ (l : List ℕ). take (length c) l) regrouped ∙ take_past (front ++ shut ∷ []) rest
              (length c) n (omega (arith, head_long)) ∙ append_assoc front (shut ∷ []) (take n rest);
          closed = at_gate.closed;
        }
    | inr same ↦ record { gate = shut; rest = rest; file = same ∙ at_gate.file; closed = at_gate.closed }
  ]

  pub cut_done : take (gate + 1) bytes ≡ front ++ shut ∷ []
  cut_done = ap (λ (l : List ℕ). take (gate + 1) l) regrouped ∙ take_at (front ++ shut ∷ []) rest (gate + 1) head_long

module _ {D : Type 0} (seen : D → List ℕ) (may_leave : D → List ℕ → Type 0) (moment : D → ℕ) (left_since : D → ℕ
    → List ℕ → Type 0) (only_now : (d : D) (c : List ℕ) → left_since d (moment d) c → may_leave d c)
    (front rest : List ℕ) (gate shut : ℕ) (d0 : D) (at_gate : ClosedAt gate front shut rest (seen d0))
    (only : Only (seen d0) (may_leave d0)) where
  abbrev Stays : D → Type 0
  Stays d = LeavesOnly moment left_since d0 d (StaysClosed front)

  begun : Stays d0
  begun = started moment left_since d0 (StaysClosed front) (λ c left. record {
    gate = shut;
    rest = rest;
    file = only c (only_now d0 c left) ∙ at_gate.file;
    closed = at_gate.closed;
  })

  module _ (d1 : D) (crash1 : Follows (CutShort (gate + 1)) (may_leave d0) (may_leave d1))
      (time1 : Elapses (moment d0) (moment d1) (left_since d0) (left_since d1) (may_leave d1)) where
    stays : (c : List ℕ) → may_leave d1 c → StaysClosed front c
    stays c now =
        let from = crash1 c now in
        cut_closed front rest gate shut (seen d0) at_gate c (subst (λ d. CutShort (gate + 1) d c) (only from.0 from.1) from.2)

    pub cut : Stays d1
    cut = goes_on moment left_since d0 d0 d1 (StaysClosed front) (may_leave d1) begun time1 stays

    pub kept : (d2 : D) → ((c : List ℕ) → may_leave d2 c → may_leave d1 c) → Elapses (moment d1) (moment d2)
        (left_since d1) (left_since d2) (may_leave d2) → Stays d2
    kept d2 crash2 time2 = goes_on moment left_since d0 d1 d2 (StaysClosed front) (may_leave d2) cut time2 (λ c now. stays c (crash2 c now))

-- A run that only read and synced, and then one that leaves what stands for the same bodies.
module _ {D : Type 0} (told : Type 0) (seen : D → List ℕ) (may_leave : D → List ℕ → Type 0) (moment : D → ℕ)
    (left_since : D → ℕ → List ℕ → Type 0) where
  abbrev Same : D → List (List ℕ) → List ℕ → Type 0
  Same old bodies c = may_leave old c ⊎ StandsFor c bodies

  pub after_quiet : (old mid new : D) (bodies : List (List ℕ)) (P : List ℕ → Type 0) → Quiet told seen may_leave moment
      left_since old mid → LeavesOnly moment left_since mid new P → ((c : List ℕ) → P c → StandsFor c bodies)
      → LeavesOnly moment left_since old new (Same old bodies)
  after_quiet old mid new bodies P quiet run says =
      joined moment left_since old mid new (Same old bodies) (weakened moment left_since old mid (may_leave old)
      (Same old bodies) (λ c was. inl was) quiet.any_moment) (weakened moment left_since mid new P (Same old bodies)
      (λ c here. inr (says c here)) run)

  -- what a read gives behind a run is one of the things that a crash during it leaves
  pub reads_left : (counts_now : (d : D) (t : ℕ) (c : List ℕ) → t ≤ moment d → may_leave d c → left_since d t c)
      → (seen_may_stay : (d : D) → told → may_leave d (seen d)) → (old new : D) (P : List ℕ → Type 0)
      → LeavesOnly moment left_since old new P → told → P (seen new)
  reads_left counts_now seen_may_stay old new P run t =
      run.each (seen new) (counts_now new (moment old) (seen new) run.later (seen_may_stay new t))

-- bytes of at most nine stand for no bodies
pub none_in_short : (bytes : List ℕ) (bodies : List (List ℕ)) → length bytes ≤ 9 → StandsFor bytes bodies → bodies ≡ []
none_in_short bytes bodies short stands = stands_for_one bytes bodies [] stands (inl (short, refl))

pub held : (bytes : List ℕ) (form : Form) (gate used count : ℕ) (e : EndsWith form bytes gate used count) → StandsFor bytes e.bodies
held bytes form gate used count e = inr (record {
  form = form;
  gate = e.shut;
  rest = e.rest;
  spelled = e.spelled;
  closed = e.closed;
  fit = e.fit;
})

-- nor do bytes break the grammar that are at most nine, or hold bodies
pub short_unbroken : (bytes : List ℕ) (at : ℕ) → length bytes ≤ 9 → BreaksAt bytes at → ⊥
short_unbroken bytes at short breaks = omega (arith, breaks.0)

pub held_unbroken : (bytes : List ℕ) (form : Form) (gate used count at : ℕ) → EndsWith form bytes gate used count → BreaksAt bytes at → ⊥
held_unbroken bytes form gate used count at e breaks = breaks_for_none bytes e.bodies at (held bytes form gate used count e) breaks

pub closed_at : (bytes there : List ℕ) (form : Form) (gate used count : ℕ) (e : EndsWith form bytes gate used count) → there ≡ bytes
    → ClosedAt gate (form_front form e.bodies) e.shut e.rest there
closed_at bytes there form gate used count e same = record { file = same ∙ e.spelled; place = sym e.place; closed = e.closed }

-- a gate that stays closed behind the bodies found keeps those that the bytes stood for
pub stays_same : (bytes : List ℕ) (form : Form) (gate used count : ℕ) (e : EndsWith form bytes gate used count) (bodies : List (List ℕ))
    → StandsFor bytes bodies → (c : List ℕ) → StaysClosed (form_front form e.bodies) c → StandsFor c bodies
stays_same bytes form gate used count e bodies stood c stays =
    subst (λ (b : List (List ℕ)). StandsFor c b) (stands_for_one bytes e.bodies bodies (held bytes form gate used count e) stood)
    (inr (stands form e.bodies c e.fit stays))

-- what was found of a disk, from the arm that it was matched in
pub found_new : (bytes : List ℕ) (o : Option Found) → o ≡ None → Examined bytes o → length bytes ≤ 9
found_new bytes o is examined = subst (λ (p : Option Found). Examined bytes p) is examined

pub found_behind : (bytes : List ℕ) (o : Option Found) (f : Found) (form : Form) (gate used count : ℕ) → o ≡ Some f
    → f ≡ Behind form gate used count → Examined bytes o → EndsWith form bytes gate used count
found_behind bytes o f form gate used count is inside examined = subst (λ (h : Found). Examined bytes (Some h)) inside
    (subst (λ (p : Option Found). Examined bytes p) is examined)

pub rests : {D : Type 0} (seen : D → List ℕ) (may_leave : D → List ℕ → Type 0) (old new : D) (form : Form) (gate used count : ℕ)
    (e : EndsWith form (seen old) gate used count) → seen new ≡ form_front form e.bodies ++ e.shut ∷ [] → Only (seen new) (may_leave new)
    → Mends seen may_leave old new (Behind form gate used count)
rests seen may_leave old new form gate used count e file durable = (
  e.bodies,
  held (seen old) form gate used count e,
  record {
    shut = e.shut;
    file = file;
    closed = e.closed;
    place = e.place;
    told = e.told;
    number = e.number;
    fit = e.fit;
    durable = durable;
  },
  inr (e.shut ∷ e.rest, e.spelled),
)
