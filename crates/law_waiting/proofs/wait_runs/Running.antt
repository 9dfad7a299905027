-- A list of events, one after the other.
use Rattle.std.proofs.Common.{◌≡◌, ℕ, ◌+◌, ◌<◌, ◌≤◌, false, List, [], ◌∷◌, ◌++◌, length, inl, inr, subst, arith}
use Rattle.std.specs.Prelude.{Option, Result, Ok, Err}
use Rattle.std.proofs.lemmas.Bool.{cases_lt}
use Rattle.std.proofs.lemmas.List.{length-append}
use Rattle.spec_exchange.specs.State.{Server}
use Rattle.law_waiting.specs.wait_steps.WaitStep.{Waiter, WaitState, WaitTurn, Responses, WaitRefusal, WaitAnswer, wait_step, waiting_on}
use Rattle.law_waiting.specs.wait_runs.WaitRuns.{AreHeld, CountsFrom, RunWaits, Test, acts_of, all_came, all_finals, all_interims, all_made, answers, behind}
use Rattle.law_waiting.specs.wait_runs.WaitRuns.{came, finals, finals_of, has_async_id, interims, interims_in, listed, steps_of, still_going, waiters_of}
use Rattle.law_waiting.proofs.wait_runs.Counting.{appended, counted_append, none_above, none_below, one_at_most}
use Rattle.law_waiting.proofs.wait_runs.Turning.{turn_goes}

run_ids : (w : WaitState) (ts : List WaitTurn) → CountsFrom w.ids_given (all_came (answers w ts))
unfolding answers
run_ids w [] = tt
run_ids w (t ∷ ts) =
    let A : WaitAnswer = wait_step w t in
    counted_append w.ids_given (came A) (all_came (answers A.waiting ts)) (turn_goes w t).ids
    (subst (λ n. CountsFrom n (all_came (answers A.waiting ts))) (turn_goes w t).given (run_ids A.waiting ts))

run_given : (w : WaitState) (ts : List WaitTurn) → (behind w ts).ids_given ≡ w.ids_given + length (all_came (answers w ts))
unfolding answers behind
run_given w [] = omega arith
run_given w (t ∷ ts) =
    let rest : (behind (wait_step w t).waiting ts).ids_given ≡ (wait_step w t).waiting.ids_given
    + length (all_came (answers (wait_step w t).waiting ts)) = run_given (wait_step w t).waiting ts in
    let here : (wait_step w t).waiting.ids_given ≡ w.ids_given + length (came (wait_step w t)) = (turn_goes w t).given in
    let both : length (came (wait_step w t) ++ all_came (answers (wait_step w t).waiting ts)) ≡ length (came (wait_step w t))
    + length (all_came (answers (wait_step w t).waiting ts)) = length-append (came (wait_step w t))
    (all_came (answers (wait_step w t).waiting ts)) in
    omega arith

run_stays : (P : Test) (w : WaitState) (ts : List WaitTurn) → finals_of P (all_finals (answers w ts)) + waiters_of P (behind w ts).waiters
    ≤ waiters_of P w.waiters + waiters_of P (all_came (answers w ts))
unfolding answers behind
run_stays P w [] = omega arith
run_stays P w (t ∷ ts) =
    let v : WaitState = (wait_step w t).waiting in
    let rest : finals_of P (all_finals (answers v ts)) + waiters_of P (behind v ts).waiters
    ≤ waiters_of P v.waiters + waiters_of P (all_came (answers v ts)) = run_stays P v ts in
    let here : waiters_of P v.waiters + finals_of P (finals (wait_step w t)) ≤ waiters_of P w.waiters
    + waiters_of P (came (wait_step w t)) = (turn_goes w t).stay P in
    let f : finals_of P (finals (wait_step w t) ++ all_finals (answers v ts)) ≡ finals_of P (finals (wait_step w t))
    + finals_of P (all_finals (answers v ts)) = appended _ (finals (wait_step w t)) (all_finals (answers v ts)) in
    let c : waiters_of P (came (wait_step w t) ++ all_came (answers v ts)) ≡ waiters_of P (came (wait_step w t))
    + waiters_of P (all_came (answers v ts)) = appended _ (came (wait_step w t)) (all_came (answers v ts)) in
    omega arith

run_answers : (P : Test) (w : WaitState) (ts : List WaitTurn) → finals_of P (all_finals (answers w ts))
    + still_going P (behind w ts) (behind w ts).stopped ≤ still_going P w w.stopped + waiters_of P (all_interims (answers w ts))
unfolding answers behind
run_answers P w [] = omega arith
run_answers P w (t ∷ ts) =
    let v : WaitState = (wait_step w t).waiting in
    let rest : finals_of P (all_finals (answers v ts)) + still_going P (behind v ts) (behind v ts).stopped
    ≤ still_going P v v.stopped + waiters_of P (all_interims (answers v ts)) = run_answers P v ts in
    let here : still_going P v v.stopped + finals_of P (finals (wait_step w t)) ≤ still_going P w w.stopped
    + waiters_of P (interims (wait_step w t)) = (turn_goes w t).answered P in
    let f : finals_of P (finals (wait_step w t) ++ all_finals (answers v ts)) ≡ finals_of P (finals (wait_step w t))
    + finals_of P (all_finals (answers v ts)) = appended _ (finals (wait_step w t)) (all_finals (answers v ts)) in
    let c : waiters_of P (interims (wait_step w t) ++ all_interims (answers v ts)) ≡ waiters_of P (interims (wait_step w t))
    + waiters_of P (all_interims (answers v ts)) = appended _ (interims (wait_step w t)) (all_interims (answers v ts)) in
    omega arith

interims_low : (P : Test) (began : Option Waiter) (r : Result Responses WaitRefusal)
    → waiters_of P (interims_in began r) ≤ waiters_of P (listed began)
interims_low P began (Ok r) = omega arith
interims_low P began (Err e) = omega arith

run_told : (P : Test) (w : WaitState) (ts : List WaitTurn) → waiters_of P (all_interims (answers w ts)) ≤ waiters_of P (all_came (answers w ts))
unfolding answers
run_told P w [] = omega arith
run_told P w (t ∷ ts) =
    let v : WaitState = (wait_step w t).waiting in
    let rest : waiters_of P (all_interims (answers v ts)) ≤ waiters_of P (all_came (answers v ts)) = run_told P v ts in
    let here : waiters_of P (interims (wait_step w t)) ≤ waiters_of P (came (wait_step w t)) = interims_low P (wait_step w t).began
    (wait_step w t).result in
    let f : waiters_of P (interims (wait_step w t) ++ all_interims (answers v ts)) ≡ waiters_of P (interims (wait_step w t))
    + waiters_of P (all_interims (answers v ts)) = appended _ (interims (wait_step w t)) (all_interims (answers v ts)) in
    let c : waiters_of P (came (wait_step w t) ++ all_came (answers v ts)) ≡ waiters_of P (came (wait_step w t))
    + waiters_of P (all_came (answers v ts)) = appended _ (came (wait_step w t)) (all_came (answers v ts)) in
    omega arith

run_acts : (P : Test) (w : WaitState) (ts : List WaitTurn) → acts_of P (all_made (answers w ts))
    + still_going P (behind w ts) (behind w ts).stopped ≤ still_going P w w.stopped + waiters_of P (all_came (answers w ts))
unfolding answers behind
run_acts P w [] = omega arith
run_acts P w (t ∷ ts) =
    let v : WaitState = (wait_step w t).waiting in
    let rest : acts_of P (all_made (answers v ts)) + still_going P (behind v ts) (behind v ts).stopped
    ≤ still_going P v v.stopped + waiters_of P (all_came (answers v ts)) = run_acts P v ts in
    let here : still_going P v v.stopped + acts_of P (wait_step w t).made ≤ still_going P w w.stopped
    + waiters_of P (came (wait_step w t)) = (turn_goes w t).acts P in
    let f : acts_of P ((wait_step w t).made ++ all_made (answers v ts)) ≡ acts_of P (wait_step w t).made
    + acts_of P (all_made (answers v ts)) = appended _ (wait_step w t).made (all_made (answers v ts)) in
    let c : waiters_of P (came (wait_step w t) ++ all_came (answers v ts)) ≡ waiters_of P (came (wait_step w t))
    + waiters_of P (all_came (answers v ts)) = appended _ (came (wait_step w t)) (all_came (answers v ts)) in
    omega arith

run_held : (w : WaitState) (ts : List WaitTurn) → (w.starved ≡ false → AreHeld w.server w.waiters) → (behind w ts).starved ≡ false
    → AreHeld (behind w ts).server (behind w ts).waiters
unfolding behind
run_held w [] h e = h e
run_held w (t ∷ ts) h e = run_held (wait_step w t).waiting ts ((turn_goes w t).held h) e

run_few : (w : WaitState) (ts : List WaitTurn) → length w.waiters ≤ 1024 → length (behind w ts).waiters ≤ 1024
unfolding behind
run_few w [] h = h
run_few w (t ∷ ts) h = run_few (wait_step w t).waiting ts ((turn_goes w t).few h)

-- ---- from a server for which nobody waits

module _ (s : Server) (ts : List WaitTurn) where
  abbrev last : WaitState
  last = behind (waiting_on s) ts

  abbrev told : List WaitAnswer
  told = answers (waiting_on s) ts

  run_once : (P : Test) → finals_of P (all_finals told) ≤ waiters_of P (all_interims told)
  run_once P =
      let h : finals_of P (all_finals told) + still_going P last last.stopped ≤ waiters_of P (waiting_on s).waiters
      + waiters_of P (all_interims told) = run_answers P (waiting_on s) ts in omega arith

  acts_once : (P : Test) → acts_of P (all_made told) ≤ waiters_of P (all_came told)
  acts_once P =
      let h : acts_of P (all_made told) + still_going P last last.stopped ≤ waiters_of P (waiting_on s).waiters + waiters_of P (all_came told)
      = run_acts P (waiting_on s) ts in omega arith

  -- one of this id came, so the id was given
  is_given : (a : ℕ) → 0 < waiters_of (has_async_id a) (all_came told) → a ≤ last.ids_given
  is_given a h =
      let n : last.ids_given ≡ 0 + length (all_came told) = run_given (waiting_on s) ts in
      elim (cases_lt (0 + length (all_came told)) a) [
        | inl l ↦
            absurd (let z : waiters_of (has_async_id a) (all_came told) ≡ 0 = none_above a 0 (all_came told) (run_ids (waiting_on s) ts) l in omega arith)
        | inr l ↦ omega arith
      ]

  settled : (a : ℕ) (t : WaitTurn) → 0 < finals_of (has_async_id a) (all_finals told) → steps_of (has_async_id a) (wait_step last t).made ≡ 0
  settled a t h =
      let one : waiters_of (has_async_id a) (all_came told) ≤ 1 = one_at_most a 0 (all_came told) (run_ids (waiting_on s) ts) in
      let all : finals_of (has_async_id a) (all_finals told) + waiters_of (has_async_id a) last.waiters ≤ waiters_of (has_async_id a) (waiting_on s).waiters
      + waiters_of (has_async_id a) (all_came told) = run_stays (has_async_id a) (waiting_on s) ts in
      let low : a ≤ last.ids_given = is_given a (omega arith) in
      let next : waiters_of (has_async_id a) (came (wait_step last t)) ≡ 0 = none_below a last.ids_given (came (wait_step last t))
      (turn_goes last t).ids low in
      let goes : steps_of (has_async_id a) (wait_step last t).made ≤ waiters_of (has_async_id a) last.waiters
      + waiters_of (has_async_id a) (came (wait_step last t)) = (turn_goes last t).goes (has_async_id a) in
      omega arith

pub waits : (s : Server) (ts : List WaitTurn) → RunWaits s ts
waits s ts =
    record {
      ids = run_ids (waiting_on s) ts;
      told = λ P. run_told P (waiting_on s) ts;
      once = run_once s ts;
      acts_once = acts_once s ts;
      settled = settled s ts;
      held = run_held (waiting_on s) ts (λ h. tt);
      few = run_few (waiting_on s) ts (omega arith);
      each = λ t. turn_goes (behind (waiting_on s) ts) t;
    }
