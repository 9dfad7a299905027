-- What a crash at any moment of a turn's steps leaves.
use Rattle.std.proofs.Common.{◌≡◌, ℕ, true, List, [], ◌∷◌, ◌++◌, Option, Some, None, ◌⊎◌, Result, Ok, Err, refl, ap, sym, subst, ◌∙◌, inl, inr, ⊎_elim, arith}
use Rattle.std.specs.Prelude.{is_some}
use Rattle.spec_exchange.specs.State as model
use Rattle.spec_exchange.specs.Fold.{nothing_yet}
use Rattle.spec_exchange.specs.Step.{step}
use Rattle.spec_crypto.specs.tokens.Tokens.{Users}
use Rattle.spec_world.specs.Ends.{Logons}
use Rattle.spec_journal.specs.Forms.{StandsFor}
use Rattle.spec_wire.specs.journal.Moments.{LeavesOnly}
use Rattle.law_snapshots.specs.snapshots.Pieces.{with_pieces}
use Rattle.law_waiting.specs.wait_steps.WaitStep.{Lacks, MadeStep, StepMishap}
use Rattle.journal.specs.disk_journal.Journal.{JournalSettled, JournalState}
use Rattle.server_checks.specs.event_heard.Heard.{heard_event}
use Rattle.server_checks.specs.declared.event_heard.event.ServerEvent.{ServerEvent}
use Rattle.server_checks.specs.declared.setups.error.EventError.{EventError}
use Rattle.server_checks.specs.declared.setups.error.EventError.TheVariants.{Memory, DiskFault, Stopped}
use Rattle.server_checks.specs.setups.Setups.{progress_of}
use Rattle.server_core.specs.journaled_tables.Beside.{logons_behind}
use Rattle.server_core.specs.Reading.{BodiesSpell, PiecesFrom, SpellOver}
use Rattle.server_core.specs.crash.Left.{IsRecorded}
use Rattle.server_core.specs.journaled_tables.Holds.{EventAnswers, EventLeavesBodies, JournaledHolds, JournaledStands}
use Rattle.server_core.specs.declared.journaled_tables.state.ServerState.{ServerState}
use Rattle.server_effects.specs.declared.answering.Answer.{Answer}
use Rattle.wait_locks.specs.Stepping.{Befell, FailsBy, LacksBy, NotAsked, StepAsked, Steps, StepsLeave}
use Rattle.wait_locks.proofs.Lasting.{OnlyLast}

-- ---- runs of a disk's calls

module _ {D : Type 0} (moment : D → ℕ) (left_since : D → ℕ → List ℕ → Type 0) where
  started : (old : D) (P : List ℕ → Type 0) → ((c : List ℕ) → left_since old (moment old) c → P c) → LeavesOnly moment left_since old old P
  started old P here = record { later = omega arith; each = here; before = λ t c le left. inl left }

  joined : (old mid new : D) (P : List ℕ → Type 0) → LeavesOnly moment left_since old mid P → LeavesOnly moment left_since mid new P
      → LeavesOnly moment left_since old new P
  joined old mid new P first second = record {
    later = omega (arith, first.later, second.later);
    each = λ c left. ⊎_elim (first.each c) (λ here. here) (second.before (moment old) c first.later left);
    before = λ t c le left. ⊎_elim (first.before t c le) (λ here. inr here) (second.before t c (omega (arith, le, first.later)) left);
  }

  weakened : (old new : D) (P Q : List ℕ → Type 0) → ((c : List ℕ) → P c → Q c) → LeavesOnly moment left_since old new P
      → LeavesOnly moment left_since old new Q
  weakened old new P Q says run = record {
    later = run.later;
    each = λ c left. says c (run.each c left);
    before = λ t c le left. ⊎_elim (λ was. inl was) (λ here. inr (says c here)) (run.before t c le left);
  }

-- ---- a server at rest

stands_for : {D : Type 0} (seen : D → List ℕ) (may_leave : D → List ℕ → Type 0) (j : JournalState D) (bodies : List (List ℕ))
    → JournalSettled seen may_leave j bodies → (c : List ℕ) → may_leave j.disk c → StandsFor c bodies
stands_for seen may_leave j bodies s c left = inr (record {
  form = j.form;
  gate = s.gate;
  rest = s.rest;
  spelled = s.durable c left ∙ s.file;
  closed = s.closed;
  fit = s.fit;
})

-- where no snapshot stands in front, all bodies have records
no_bodies : (s : model.Server) (bodies : List (List ℕ)) → PiecesFrom s bodies [] → bodies ≡ []
no_bodies s [] h = refl
no_bodies s (b ∷ bodies) h = absurd (let e : [] ≡ h.0 ∷ (h.1 ++ h.2) = h.5 in cc)

none_over : (bodies : List (List ℕ)) (rs : List model.Record) → SpellOver [] bodies rs → BodiesSpell bodies rs
unfolding with_pieces
none_over bodies rs h =
    let same : h.back ≡ bodies =
    sym (h.bodies_are ∙ ap (λ (bs : List (List ℕ)). bs ++ h.back) (no_bodies nothing_yet h.front h.pieces)) in
    subst (λ (bs : List (List ℕ)). BodiesSpell bs rs) same h.records

recorded : {D : Type 0} (told : Type 0) (seen : D → List ℕ) (may_leave : D → List ℕ → Type 0) (c : ServerState D) (s : model.Server) (L : Logons)
    (records : List model.Record) (bodies : List (List ℕ)) → JournaledHolds told seen may_leave c s L records
    → JournaledStands seen may_leave [] c.journal s records bodies → IsRecorded s records bodies
recorded told seen may_leave c s L records bodies h st =
    record { fits = h.fits; version = h.version; sound = h.sound; spelled = none_over bodies records st.spelled; for_state = st.plain refl }

-- its bodies spell these records
abbrev pub Stands : {D : Type 0} → (D → List ℕ) → (D → List ℕ → Type 0) → ServerState D → List model.Record → Type 0
Stands seen may_leave c records = (s : model.Server) × (bodies : List (List ℕ)) × JournaledStands seen may_leave [] c.journal s records bodies

none_behind : (x : MadeStep) (xs : List MadeStep) → OnlyLast (x ∷ xs) → is_some x.mishap ≡ true → xs ≡ []
none_behind x xs h e = h.0 e

module _ {D : Type 0} (told : Type 0) (seen : D → List ℕ) (may_leave : D → List ℕ → Type 0) (moment : D → ℕ) (left_since : D → ℕ → List ℕ → Type 0)
    (faults : D → ℕ) (users : Users) (now : ℕ) (own : ServerEvent)
    (only_now : (disk : D) (c : List ℕ) → left_since disk (moment disk) c → may_leave disk c) (tells : told) where
  abbrev All : ServerState D → ServerState D → Logons → List model.Record → List MadeStep → Logons → List model.Record → Type 0
  All = Steps told seen may_leave moment left_since faults users now own

  abbrev Left : ServerState D → ServerState D → Logons → List model.Record → List MadeStep → Type 0
  Left c d L records xs = LeavesOnly moment left_since c.journal.disk d.journal.disk (StepsLeave users now own L records xs)

  at_rest : (c d : ServerState D) (L M : Logons) (records written : List model.Record) → Stands seen may_leave c records
      → All c d L records [] M written → Left c d L records []
  at_rest c d L M records written st g =
      let P : ServerState D → Type 0 = λ z. Left c z L records [] in
      subst P (sym g.0)
      (started moment left_since c.journal.disk (StepsLeave users now own L records [])
      (λ b left. (st.1, none_over st.1 records st.2.spelled, stands_for seen may_leave c.journal st.1 st.2.settled b (only_now c.journal.disk b left))))

  module _ (c b d : ServerState D) (L N M : Logons) (records front rest : List model.Record) (x : MadeStep) (xs : List MadeStep)
      (h : JournaledHolds told seen may_leave c x.server L records) (none : c.stopped ≡ None) where
    abbrev P : List ℕ → Type 0
    P = StepsLeave users now own L records (x ∷ xs)

    -- nothing comes behind it
    ends : OnlyLast (x ∷ xs) → is_some x.mishap ≡ true → All b d N (records ++ front) xs M rest → LeavesOnly moment left_since c.journal.disk b.journal.disk P
        → LeavesOnly moment left_since c.journal.disk d.journal.disk P
    ends last e more run =
        let Q : List MadeStep → Type 0 = λ z. All b d N (records ++ front) z M rest in
        let R : ServerState D → Type 0 = λ z. LeavesOnly moment left_since c.journal.disk z.journal.disk P in
        let same : All b d N (records ++ front) [] M rest = subst Q (none_behind x xs last e) more in
        subst R (sym same.0) run

    -- it wasn't asked
    rests : b ≡ c → LeavesOnly moment left_since c.journal.disk b.journal.disk P
    rests e =
        let st = h.stands none tells in let R : ServerState D → Type 0 = λ z. LeavesOnly moment left_since c.journal.disk z.journal.disk P in
        subst R (sym e)
        (started moment left_since c.journal.disk P
        (λ y left.
        inl (record {
          bodies = st.0;
          recorded = recorded told seen may_leave c x.server L records st.0 h st.1;
          stands = inl (stands_for seen may_leave c.journal st.0 st.1.settled y (only_now c.journal.disk y left));
        })))

    -- it was
    ran : StepAsked told seen may_leave moment left_since faults users now own c b L records x N front
        → LeavesOnly moment left_since c.journal.disk b.journal.disk P
    ran a =
        let st = h.stands none tells in
        weakened moment left_since c.journal.disk b.journal.disk (EventLeavesBodies x.server now (heard_event users L x.server a.event) st.0) P
        (λ y e.
        inl (record {
          bodies = st.0;
          recorded = recorded told seen may_leave c x.server L records st.0 h st.1;
          stands = inr (a.event, a.heard, e);
        })) (a.any_moment tells st.0 (none, st.1))

    goes_on : front ≡ x.answer.records → LeavesOnly moment left_since c.journal.disk b.journal.disk P → Left b d N (records ++ front) xs
        → LeavesOnly moment left_since c.journal.disk d.journal.disk P
    goes_on e first second =
        let Q : List model.Record → Type 0 = λ z. Left b d N (records ++ z) xs in
        joined moment left_since c.journal.disk b.journal.disk d.journal.disk P first
        (weakened moment left_since b.journal.disk d.journal.disk (StepsLeave users now own N (records ++ x.answer.records) xs) P
        (λ y l. inr (N, l)) (subst Q e second))

  module _ (c b d : ServerState D) (L N M : Logons) (records front rest : List model.Record) (x : MadeStep) (xs : List MadeStep)
      (h : JournaledHolds told seen may_leave c x.server L records) (none : c.stopped ≡ None) (last : OnlyLast (x ∷ xs))
      (more : All b d N (records ++ front) xs M rest) (later : Stands seen may_leave b (records ++ front) → Left b d N (records ++ front) xs) where
    fell : (o : Option StepMishap) (y : StepMishap) → o ≡ Some y → is_some o ≡ true
    fell o y e = ap is_some e

    lacked : (e : model.ServerEvent) → LacksBy now x e front → is_some x.mishap ≡ true
    lacked e (inl f) = fell x.mishap (Lacks x.server) f.0
    lacked e (inr f) = fell x.mishap (Lacks f.1) f.3

    failed : (e : model.ServerEvent) (count : ℕ) (A B C : Logons) → FailsBy now x e count A B C → is_some x.mishap ≡ true
    failed e count A B C (inl f) = ap is_some f.0
    failed e count A B C (inr f) = ap is_some f.3

    module _ (a : StepAsked told seen may_leave moment left_since faults users now own c b L records x N front) where
      abbrev ev : model.ServerEvent
      ev = heard_event users L x.server a.event

      stays : is_some x.mishap ≡ true → Left c d L records (x ∷ xs)
      stays e = ends c b d L N M records front rest x xs h none last e more (ran c b d L N M records front rest x xs h none a)

      by_result : (r : Result Answer EventError) → EventAnswers told seen may_leave [] faults c b users x.server L records now a.event r
          → Befell now r x ev L (logons_behind users L a.event now (progress_of ev x.answer.reply)) N front → Left c d L records (x ∷ xs)
      by_result (Ok r) ans bef =
          let Q : List model.Record → Type 0 = λ z. Stands seen may_leave b (records ++ z) in let st = ans.4.stands ans.0 tells in
          goes_on c b d L N M records front rest x xs h none bef.2 (ran c b d L N M records front rest x xs h none a)
          (later
          (subst Q (sym (bef.2 ∙ ap (λ (z : model.Answer). z.records) a.answer)) ((step x.server now ev).server, st.0, st.1)))
      by_result (Err Memory) ans bef = stays (lacked ev bef.1)
      by_result (Err (DiskFault count)) ans bef =
          stays (failed ev count L (logons_behind users L a.event now (progress_of ev x.answer.reply)) N bef.1)
      by_result (Err (Stopped count)) ans bef = absurd bef

    by_goes : (StepAsked told seen may_leave moment left_since faults users now own c b L records x N front
        ⊎ NotAsked told seen may_leave moment left_since faults users now own c b L x N front) → Left c d L records (x ∷ xs)
    by_goes (inl a) = by_result a a.result a.answers a.befell
    by_goes (inr n) =
        ends c b d L N M records front rest x xs h none last (ap is_some n.mishap) more (rests c b d L N M records front rest x xs h none n.same)

  pub all_left : (xs : List MadeStep) (c d : ServerState D) (L M : Logons) (records written : List model.Record) → OnlyLast xs
      → Stands seen may_leave c records → All c d L records xs M written → Left c d L records xs
  all_left [] c d L M records written last st g = at_rest c d L M records written st g
  all_left (x ∷ xs) c d L M records written last st g =
      by_goes c g.0 d L g.1 M records g.2 g.3 x xs g.4.0 g.4.1 last g.5
      (λ s. all_left xs g.0 d g.1 M (records ++ g.2) g.3 last.1 s g.5) g.4.2
