-- One event: it began, and waiters were tried.
use Rattle.std.proofs.Common.{◌≡◌, ℕ, ◌+◌, ◌≤◌, Bool, true, false, if◌then◌else◌, List, [], ◌∷◌, ◌++◌, length, Option, Some, None}
use Rattle.std.proofs.Common.{refl, ap, subst, arith}
use Rattle.std.specs.Prelude.{Ok, Err}
use Rattle.spec_exchange.specs.State.{Server}
use Rattle.law_waiting.specs.wait_steps.WaitStep.{WaitEvent, Waiter, WaitState, WaitTurn, Response, Responses, WaitRefusal, MadeStep, Begun, Tried, begun, lacking, staying_waiters}
use Rattle.law_waiting.specs.wait_runs.WaitRuns.{server_behind}
use Rattle.law_waiting.specs.wait_steps.WaitStep.{result_of, step_unless, then_tried, tried, tried_behind, wait_step}
use Rattle.law_waiting.specs.wait_runs.WaitRuns.{AnswersItself, AreAnswered, AreSteps, IsItsTurn, Test, TurnGoes, acts_of, finals_in, finals_of, is_waiter_of}
use Rattle.law_waiting.specs.wait_runs.WaitRuns.{is_on, interims_in, listed, own_steps, steps_of, still_going, waiters_of}
use Rattle.law_waiting.proofs.wait_runs.Counting.{acts_low, all_appended, all_behind, appended}
use Rattle.law_waiting.proofs.wait_runs.Lists.{behind_ended, behind_length, behind_low, behind_same}
use Rattle.law_waiting.proofs.wait_runs.Trying.{TriedGoes, tried_fed, tried_goes, tried_steps}
use Rattle.law_waiting.proofs.wait_runs.Beginning.{BegunGoes, begun_goes, begun_steps}

-- ---- what the responses are

final_low : (P : Test) (r : Responses) (ls : List Response) (o : Option ℕ)
    → finals_of P (finals_in (result_of r ls o)) ≤ finals_of P r.finals + finals_of P ls
final_low P r ls None =
    let e : finals_of P (r.finals ++ ls) ≡ finals_of P r.finals + finals_of P ls = appended _ r.finals ls in omega arith
final_low P r ls (Some count) = omega arith

final_same : (P : Test) (r : Responses) (ls : List Response) (o : Option ℕ) → o ≡ None
    → finals_of P (finals_in (result_of r ls o)) ≡ finals_of P r.finals + finals_of P ls
final_same P r ls None e = appended _ r.finals ls
final_same P r ls (Some count) e = absurd (cc)

itself_by : (began : Option Waiter) (r : Responses) (ls : List Response) (o : Option ℕ) (xs ys : List MadeStep) → AnswersItself began (Ok r) xs
    → own_steps ys ≡ 0 → AnswersItself began (result_of r ls o) (xs ++ ys)
itself_by None r ls None xs ys h z =
    let e : own_steps (xs ++ ys) ≡ own_steps xs + own_steps ys = appended _ xs ys in
    let l : own_steps xs ≤ 1 = h.1 in (h.0, omega arith)
itself_by None r ls (Some count) xs ys h z =
    let e : own_steps (xs ++ ys) ≡ own_steps xs + own_steps ys = appended _ xs ys in
    let l : own_steps xs ≤ 1 = h.1 in (tt, omega arith)
itself_by (Some w) r ls None xs ys h z =
    let e : own_steps (xs ++ ys) ≡ own_steps xs + own_steps ys = appended _ xs ys in
    let l : own_steps xs ≡ 0 = h.1 in (h.0, omega arith)
itself_by (Some w) r ls (Some count) xs ys h z =
    let e : own_steps (xs ++ ys) ≡ own_steps xs + own_steps ys = appended _ xs ys in
    let l : own_steps xs ≡ 0 = h.1 in (tt, omega arith)

itself_refused : (began : Option Waiter) (r : Responses) (e : WaitRefusal) (xs : List MadeStep) → AnswersItself began (Ok r) xs
    → AnswersItself began (Err e) xs
itself_refused None r e xs h = (tt, h.1)
itself_refused (Some w) r e xs h = (tt, h.1)

going_low : (P : Test) (w : WaitState) (o : Option ℕ) → still_going P w o ≤ waiters_of P w.waiters
going_low P w None = omega arith
going_low P w (Some count) = omega arith

going_all : (P : Test) (w : WaitState) (o : Option ℕ) → o ≡ None → still_going P w o ≡ waiters_of P w.waiters
going_all P w o e = ap (still_going P w) e

pub steps_appended : (now : ℕ) (e : WaitEvent) (s m t : Server) (xs ys : List MadeStep) → AreSteps now e s xs m → AreSteps now e m ys t
    → AreSteps now e s (xs ++ ys) t
steps_appended now e s m t [] ys h i = subst (λ v. AreSteps now e v ys t) h i
steps_appended now e s m t (x ∷ xs) ys h i = (h.0, h.1, steps_appended now e (server_behind x.mishap x.answer) m t xs ys h.2 i)

-- ---- waiters were tried behind it

answered_by : (P : Test) (w v : WaitState) (b : Begun) (T : Tried) (o : Option ℕ) → w.stopped ≡ None → v.waiters ≡ T.waiters → waiters_of P b.waiting.waiters + finals_of P b.replies.finals ≤ waiters_of P w.waiters + waiters_of P (listed b.began)
    → waiters_of P T.waiters + finals_of P T.finals ≡ waiters_of P b.waiting.waiters
    → still_going P v o + finals_of P (finals_in (result_of b.replies T.finals o))
    ≤ still_going P w w.stopped + waiters_of P (interims_in b.began (result_of b.replies T.finals o))
answered_by P w v b T None n e s g =
    let f : finals_of P (finals_in (result_of b.replies T.finals None)) ≡ finals_of P b.replies.finals + finals_of P T.finals
    = final_same P b.replies T.finals None refl in
    let a : waiters_of P v.waiters ≡ waiters_of P T.waiters = ap (waiters_of P) e in
    let z : waiters_of P b.waiting.waiters + finals_of P b.replies.finals ≤ waiters_of P w.waiters + waiters_of P (listed b.began) = s in
    let q : still_going P w w.stopped ≡ waiters_of P w.waiters = going_all P w w.stopped n in omega arith
answered_by P w v b T (Some count) n e s g = omega arith

acts_by : (P : Test) (w : WaitState) (ws : List Waiter) (T : Tried) (o : Option ℕ) → T.failed ≡ o → w.waiters ≡ T.waiters → TriedGoes ws T
    → still_going P w o + acts_of P T.made ≤ waiters_of P ws
acts_by P w ws T None e f g =
    let a : waiters_of P T.waiters + acts_of P T.made ≤ waiters_of P ws = g.acts P e in
    let b : waiters_of P w.waiters ≡ waiters_of P T.waiters = ap (waiters_of P) f in omega arith
acts_by P w ws T (Some count) e f g =
    let a : steps_of P T.made ≤ waiters_of P ws = g.goes P in
    let b : acts_of P T.made ≤ steps_of P T.made = acts_low P T.made in omega arith

went : (w : WaitState) (t : WaitTurn) (b : Begun) (T : Tried) → w.stopped ≡ None → BegunGoes w t b → TriedGoes b.waiting.waiters T
    → AreSteps t.now t.event w.server b.made b.waiting.server → AreSteps t.now t.event b.waiting.server T.made T.server
    → (AreAnswered T.made → T.starved ≡ false) → TurnGoes w t (tried_behind b T)
went w t b T n B G S U F =
    record {
      steps = steps_appended t.now t.event w.server b.waiting.server T.server b.made T.made S U;
      ids = B.ids;
      given = B.given;
      stay = λ P.
          let f : finals_of P (finals_in (result_of b.replies T.finals T.failed)) ≤ finals_of P b.replies.finals + finals_of P T.finals
          = final_low P b.replies T.finals T.failed in
          let s : waiters_of P b.waiting.waiters + finals_of P b.replies.finals ≤ waiters_of P w.waiters + waiters_of P (listed b.began)
          = B.stay P in
          let g : waiters_of P T.waiters + finals_of P T.finals ≡ waiters_of P b.waiting.waiters = G.stay P in omega arith;
      all_stay = λ P e z.
          let f : finals_of P (finals_in (result_of b.replies T.finals T.failed)) ≡ finals_of P b.replies.finals + finals_of P T.finals
          = final_same P b.replies T.finals T.failed z in
          let s : waiters_of P b.waiting.waiters + finals_of P b.replies.finals ≡ waiters_of P w.waiters + waiters_of P (listed b.began)
          = B.all_stay P e in
          let g : waiters_of P T.waiters + finals_of P T.finals ≡ waiters_of P b.waiting.waiters = G.stay P in omega arith;
      answered = λ P. answered_by P w (tried_behind b T).waiting b T T.failed n refl (B.stay P) (G.stay P);
      goes = λ P.
          let a : steps_of P (b.made ++ T.made) ≡ steps_of P b.made + steps_of P T.made = appended _ b.made T.made in
          let z : steps_of P b.made ≡ 0 = B.steps P in
          let s : waiters_of P b.waiting.waiters + finals_of P b.replies.finals ≤ waiters_of P w.waiters + waiters_of P (listed b.began)
          = B.stay P in
          let g : steps_of P T.made ≤ waiters_of P b.waiting.waiters = G.goes P in omega arith;
      acts = λ P.
          let a : acts_of P (b.made ++ T.made) ≡ acts_of P b.made + acts_of P T.made = appended _ b.made T.made in
          let z : acts_of P b.made ≡ 0 = B.acts P in
          let s : waiters_of P b.waiting.waiters + finals_of P b.replies.finals ≤ waiters_of P w.waiters + waiters_of P (listed b.began)
          = B.stay P in
          let o : still_going P w w.stopped ≡ waiters_of P w.waiters = going_all P w w.stopped n in
          let g : still_going P (tried_behind b T).waiting T.failed + acts_of P T.made ≤ waiters_of P b.waiting.waiters
          = acts_by P (tried_behind b T).waiting b.waiting.waiters T T.failed refl refl G in omega arith;
      itself = itself_by b.began b.replies T.finals T.failed b.made T.made B.itself G.own;
      in_turn = all_appended (λ (x : MadeStep). IsItsTurn x.server x.earlier x.waiter) b.made T.made B.in_turn G.in_turn;
      held = λ h e. G.held e;
      fed = λ l z a. F (all_behind (λ (x : MadeStep). x.mishap ≡ None) b.made T.made a);
      few = λ h.
          let a : length b.waiting.waiters ≤ 1024 = B.few h in
          let l : length T.waiters ≤ length b.waiting.waiters = G.few in omega arith;
      ended = λ k e z.
          let a : waiters_of (is_on k) b.waiting.waiters ≡ 0 = B.ended k e in
          let g : waiters_of (is_on k) T.waiters + finals_of (is_on k) T.finals ≡ waiters_of (is_on k) b.waiting.waiters
          = G.stay (is_on k) in omega arith;
    }

-- ---- its own step wasn't answered

not_answered : (w : WaitState) (t : WaitTurn) (b : Begun) (refusal : WaitRefusal) → w.stopped ≡ None → b.refusal ≡ Some refusal → BegunGoes w t b
    → AreSteps t.now t.event w.server b.made b.waiting.server → TurnGoes w t (record { waiting = b.waiting; began = b.began; result = Err refusal; made = b.made })
not_answered w t b refusal n r B S =
    let R : (b.waiting.starved ≡ true) × (b.replies.finals ≡ []) × (b.began ≡ None) × (AreAnswered b.made → ⊥) = rw r at B.refused in
    record {
      steps = S;
      ids = B.ids;
      given = B.given;
      stay = λ P.
          let s : waiters_of P b.waiting.waiters + finals_of P b.replies.finals ≤ waiters_of P w.waiters + waiters_of P (listed b.began)
          = B.stay P in omega arith;
      all_stay = λ P e z.
          let s : waiters_of P b.waiting.waiters + finals_of P b.replies.finals ≡ waiters_of P w.waiters + waiters_of P (listed b.began)
          = B.all_stay P e in
          let f : finals_of P b.replies.finals ≡ 0 = ap (finals_of P) R.1 in omega arith;
      answered = λ P.
          let s : waiters_of P b.waiting.waiters + finals_of P b.replies.finals ≤ waiters_of P w.waiters + waiters_of P (listed b.began)
          = B.stay P in
          let c : waiters_of P (listed b.began) ≡ 0 = ap (λ x. waiters_of P (listed x)) R.2 in
          let o : still_going P w w.stopped ≡ waiters_of P w.waiters = going_all P w w.stopped n in
          let g : still_going P b.waiting b.waiting.stopped ≤ waiters_of P b.waiting.waiters = going_low P b.waiting b.waiting.stopped in
          omega arith;
      goes = λ P. let z : steps_of P b.made ≡ 0 = B.steps P in omega arith;
      acts = λ P.
          let z : acts_of P b.made ≡ 0 = B.acts P in
          let s : waiters_of P b.waiting.waiters + finals_of P b.replies.finals ≤ waiters_of P w.waiters + waiters_of P (listed b.began)
          = B.stay P in
          let o : still_going P w w.stopped ≡ waiters_of P w.waiters = going_all P w w.stopped n in
          let g : still_going P b.waiting b.waiting.stopped ≤ waiters_of P b.waiting.waiters = going_low P b.waiting b.waiting.stopped in
          omega arith;
      itself = itself_refused b.began b.replies refusal b.made B.itself;
      in_turn = B.in_turn;
      held = λ h e. absurd (let s : b.waiting.starved ≡ true = R.0 in cc);
      fed = λ l z a. absurd (R.3 a);
      few = B.few;
      ended = λ k e z. B.ended k e;
    }

then_by : (w : WaitState) (t : WaitTurn) (b : Begun) (o : Option WaitRefusal) → w.stopped ≡ None → b.refusal ≡ o → BegunGoes w t b
    → AreSteps t.now t.event w.server b.made b.waiting.server → TurnGoes w t (then_tried t.now b o)
then_by w t b None n r B S =
    let rounds : ℕ = length b.waiting.waiters in
    went w t b (tried t.now b.waiting.server b.waiting.waiters b.mishaps rounds) n B
    (tried_goes t.now b.waiting.server b.waiting.waiters b.mishaps rounds) S
    (tried_steps t.now t.event b.waiting.server b.waiting.waiters b.mishaps rounds)
    (tried_fed t.now b.waiting.server b.waiting.waiters b.mishaps rounds (omega arith))
then_by w t b (Some refusal) n r B S = not_answered w t b refusal n r B S

-- ---- memory ran out in front of it

lacks : (w : WaitState) (t : WaitTurn) → w.stopped ≡ None → t.lacks ≡ true → TurnGoes w t (lacking w t)
lacks w t n b =
    record {
      steps = refl;
      ids = tt;
      given = omega arith;
      stay = λ P.
          let l : waiters_of P (staying_waiters w.waiters t.event) ≤ waiters_of P w.waiters = behind_low (is_waiter_of P) w.waiters t.event in omega arith;
      all_stay = λ P e z.
          let l : waiters_of P (staying_waiters w.waiters t.event) ≡ waiters_of P w.waiters = ap (waiters_of P)
          (behind_same w.waiters t.event e) in omega arith;
      answered = λ P.
          let l : waiters_of P (staying_waiters w.waiters t.event) ≤ waiters_of P w.waiters = behind_low (is_waiter_of P) w.waiters t.event in
          let o : still_going P w w.stopped ≡ waiters_of P w.waiters = going_all P w w.stopped n in
          let g : still_going P (lacking w t).waiting w.stopped ≤ waiters_of P (staying_waiters w.waiters t.event)
          = going_low P (lacking w t).waiting w.stopped in omega arith;
      goes = λ P. omega arith;
      acts = λ P.
          let l : waiters_of P (staying_waiters w.waiters t.event) ≤ waiters_of P w.waiters = behind_low (is_waiter_of P) w.waiters t.event in
          let o : still_going P w w.stopped ≡ waiters_of P w.waiters = going_all P w w.stopped n in
          let g : still_going P (lacking w t).waiting w.stopped ≤ waiters_of P (staying_waiters w.waiters t.event)
          = going_low P (lacking w t).waiting w.stopped in omega arith;
      itself = (tt, omega arith);
      in_turn = tt;
      held = λ h e. absurd (cc);
      fed = λ l z a. absurd (cc);
      few = λ h. let l : length (staying_waiters w.waiters t.event) ≤ length w.waiters = behind_length w.waiters t.event in omega arith;
      ended = λ k e z. behind_ended k w.waiters t.event e;
    }

-- ---- any event

standing_by : (w : WaitState) (t : WaitTurn) (b : Begun) (lack : Bool) → t.lacks ≡ lack → w.stopped ≡ None → BegunGoes w t b
    → AreSteps t.now t.event w.server b.made b.waiting.server
    → TurnGoes w t (if lack then lacking w t else then_tried t.now b b.refusal)
standing_by w t b true l n B S = lacks w t n l
standing_by w t b false l n B S = then_by w t b b.refusal n refl B S

by_stop : (w : WaitState) (t : WaitTurn) (o : Option ℕ) → w.stopped ≡ o → TurnGoes w t (step_unless w t o)
by_stop w t None e = standing_by w t (begun w t t.event) t.lacks refl e (begun_goes w t t.event refl) (begun_steps w t t.event)
by_stop w t (Some count) e =
    record {
      steps = refl;
      answered = λ P. omega arith;
      fed = λ l z a. absurd (cc);
      ids = tt;
      given = omega arith;
      stay = λ P. omega arith;
      all_stay = λ P f z. omega arith;
      goes = λ P. omega arith;
      acts = λ P. omega arith;
      itself = (tt, omega arith);
      in_turn = tt;
      held = λ h f. h f;
      few = λ h. h;
      ended = λ k f z. absurd (cc);
    }

pub turn_goes : (w : WaitState) (t : WaitTurn) → TurnGoes w t (wait_step w t)
unfolding wait_step
turn_goes w t = by_stop w t w.stopped refl
