-- The event itself, before waiters are tried.
use Rattle.std.proofs.Common.{◌≡◌, ℕ, ◌+◌, ◌<◌, ◌≤◌, ◌&&◌, not, nat_le, Bool, true, false, if◌then◌else◌, List, [], ◌∷◌, length}
use Rattle.std.proofs.Common.{Option, Some, None, refl, ap, arith}
use Rattle.std.specs.Prelude.{is_some, Ok}
use Rattle.std.specs.List.{AllByRecursion}
use Rattle.std.proofs.lemmas.Bool.Decides.{nat_tests}
use Rattle.std.proofs.lemmas.List.{length-append}
use Rattle.spec_exchange.specs.State.{Message, ServerEvent, Accept, Heard, End, Stop, Reply}
use Rattle.law_waiting.specs.held.Held.{would_wait}
use Rattle.law_waiting.specs.wait_steps.WaitStep.{Waiter, WaitState, Target, WaitEvent, Serves, Cancels, WaitTurn, StepMishap, Lacks, Fails, MadeStep, WaitRefusal}
use Rattle.law_waiting.specs.wait_steps.WaitStep.{Begun, begun, cancelling, step_acted, last_async_id, staying_waiters, let_in}
use Rattle.law_waiting.specs.wait_steps.WaitStep.{max_waiters, waiter_named, new_waiter, next_mishap, later_mishaps, own_reply, own_step, sent_before}
use Rattle.law_waiting.specs.wait_steps.WaitStep.{served, taken_behind, taken_in, to_server, turned_away}
use Rattle.law_waiting.specs.wait_runs.WaitRuns.{AnswersItself, AreAnswered, AreSteps, CountsFrom, IsItsTurn, Test, acts_of, finals_of, is_end, is_waiter_of}
use Rattle.law_waiting.specs.wait_runs.WaitRuns.{is_on, is_step_of, listed, steps_of, waiters_of}
use Rattle.law_waiting.proofs.wait_runs.Counting.{appended, bit}
use Rattle.law_waiting.proofs.wait_runs.Lists.{behind_ended, behind_length, behind_low, behind_same, left_counts, left_length, place_counts}
use Rattle.law_waiting.proofs.wait_runs.Lists.{place_length}

abbrev pub RefusalIs : WaitState → Begun → Option WaitRefusal → Type 0
RefusalIs w b None = b.waiting.stopped ≡ w.stopped
RefusalIs w b (Some refusal) = (b.waiting.starved ≡ true) × (b.replies.finals ≡ []) × (b.began ≡ None) × (AreAnswered b.made → ⊥)

pub record BegunGoes (w : WaitState) (t : WaitTurn) (b : Begun) : Type 0 where
  pub ids : CountsFrom w.ids_given (listed b.began)
  pub given : b.waiting.ids_given ≡ w.ids_given + length (listed b.began)
  pub stay : (P : Test) → waiters_of P b.waiting.waiters + finals_of P b.replies.finals ≤ waiters_of P w.waiters + waiters_of P (listed b.began)
  pub all_stay : (P : Test) → is_end t.event ≡ false
      → waiters_of P b.waiting.waiters + finals_of P b.replies.finals ≡ waiters_of P w.waiters + waiters_of P (listed b.began)
  pub steps : (P : Test) → steps_of P b.made ≡ 0
  pub acts : (P : Test) → acts_of P b.made ≡ 0
  pub itself : AnswersItself b.began (Ok b.replies) b.made
  pub in_turn : AllByRecursion (λ x. IsItsTurn x.server x.earlier x.waiter) b.made
  pub few : length w.waiters ≤ 1024 → length b.waiting.waiters ≤ 1024
  pub ended : (k : ℕ) → t.event ≡ Serves (End k)
      → waiters_of (is_on k) b.waiting.waiters ≡ 0
  pub refused : RefusalIs w b b.refusal

-- ---- it goes to the server

bit_off : (a b : Bool) → b ≡ false → bit (if a then b else false) ≡ 0
bit_off true b e = ap bit e
bit_off false b e = refl

no_act : (P : Test) (x : MadeStep) → x.waiter ≡ None → acts_of P (x ∷ []) ≡ 0
no_act P x e =
    let z : bit (if step_acted x then is_step_of P x.waiter else false) ≡ 0 = bit_off (step_acted x) (is_step_of P x.waiter)
    (ap (is_step_of P) e) in
    omega arith

at_once : (e : ServerEvent) (r : Reply) → (own_reply e r).async_id ≡ 0
at_once (Accept k) r = refl
at_once (Heard m) r = refl
at_once (End k) r = refl
at_once Stop r = refl

module _ (w : WaitState) (t : WaitTurn) (e : ServerEvent) (rest : List (Option StepMishap)) where
  abbrev ws : List Waiter
  ws = staying_waiters w.waiters t.event

  low : (P : Test) → waiters_of P ws ≤ waiters_of P w.waiters
  low P = behind_low (is_waiter_of P) w.waiters t.event

  same : (P : Test) → is_end t.event ≡ false → waiters_of P ws ≡ waiters_of P w.waiters
  same P h = ap (waiters_of P) (behind_same w.waiters t.event h)

  served_goes : (o : Option StepMishap) → BegunGoes w t (served w t.now e ws rest o)
  served_goes None =
      record {
        ids = tt;
        given = omega arith;
        stay = λ P. let l : waiters_of P ws ≤ waiters_of P w.waiters = low P in omega arith;
        all_stay = λ P h. let l : waiters_of P ws ≡ waiters_of P w.waiters = same P h in omega arith;
        steps = λ P. refl;
        acts = λ P. no_act P (own_step w.server t.now e None) refl;
        itself = (at_once e _, omega arith);
        in_turn = (tt, tt);
        few = λ f. let l : length ws ≤ length w.waiters = behind_length w.waiters t.event in omega arith;
        ended = λ k h. behind_ended k w.waiters t.event h;
        refused = refl;
      }
  served_goes (Some (Lacks s)) =
      record {
        ids = tt;
        given = omega arith;
        stay = λ P. let l : waiters_of P ws ≤ waiters_of P w.waiters = low P in omega arith;
        all_stay = λ P h. let l : waiters_of P ws ≡ waiters_of P w.waiters = same P h in omega arith;
        steps = λ P. refl;
        acts = λ P. refl;
        itself = (tt, omega arith);
        in_turn = (tt, tt);
        few = λ f. let l : length ws ≤ length w.waiters = behind_length w.waiters t.event in omega arith;
        ended = λ k h. behind_ended k w.waiters t.event h;
        refused = (refl, refl, refl, λ a. let h : Some (Lacks s) ≡ None = a.0 in cc);
      }
  served_goes (Some (Fails s count)) =
      record {
        ids = tt;
        given = omega arith;
        stay = λ P. let l : waiters_of P ws ≤ waiters_of P w.waiters = low P in omega arith;
        all_stay = λ P h. let l : waiters_of P ws ≡ waiters_of P w.waiters = same P h in omega arith;
        steps = λ P. refl;
        acts = λ P. no_act P (own_step w.server t.now e (Some (Fails s count))) refl;
        itself = (tt, omega arith);
        in_turn = (tt, tt);
        few = λ f. let l : length ws ≤ length w.waiters = behind_length w.waiters t.event in omega arith;
        ended = λ k h. behind_ended k w.waiters t.event h;
        refused = (refl, refl, refl, λ a. let h : Some (Fails s count) ≡ None = a.0 in cc);
      }

-- ---- it is a LOCK that would wait, or a CANCEL

module _ (w : WaitState) (t : WaitTurn) (mishaps : List (Option StepMishap)) (other : (k : ℕ) → t.event ≡ Serves (End k) → ⊥) where
  away_goes : (m : Message) → BegunGoes w t (turned_away w m mishaps)
  away_goes m =
      record {
        ids = tt;
        given = omega arith;
        stay = λ P. omega arith;
        all_stay = λ P h. omega arith;
        steps = λ P. refl;
        acts = λ P. refl;
        itself = (refl, omega arith);
        in_turn = tt;
        few = λ f. f;
        ended = λ k h. absurd (other k h);
        refused = refl;
      }

  again_goes : (m : Message) (old : Waiter) → sent_before m w.waiters ≡ Some old → BegunGoes w t (taken_in w m mishaps (Some old))
  again_goes m old e =
      record {
        ids = (refl, tt);
        given = omega arith;
        stay = λ P. let p = place_counts (is_waiter_of P) (new_waiter w m) old w.waiters e in omega (arith, p);
        all_stay = λ P h. let p = place_counts (is_waiter_of P) (new_waiter w m) old w.waiters e in omega (arith, p);
        steps = λ P. refl;
        acts = λ P. refl;
        itself = (refl, refl);
        in_turn = tt;
        few = λ f. let l = place_length (new_waiter w m) w.waiters in omega (arith, l);
        ended = λ k h. absurd (other k h);
        refused = refl;
      }

  behind_all : (m : Message) (b : Bool) → nat_le max_waiters (length w.waiters) ≡ b
      → BegunGoes w t (if b then turned_away w m mishaps else taken_behind w m mishaps)
  behind_all m true e = away_goes m
  behind_all m false e =
      record {
        ids = (refl, tt);
        given = omega arith;
        stay = λ P. let p = appended (is_waiter_of P) w.waiters (new_waiter w m ∷ []) in omega (arith, p);
        all_stay = λ P h. let p = appended (is_waiter_of P) w.waiters (new_waiter w m ∷ []) in omega (arith, p);
        steps = λ P. refl;
        acts = λ P. refl;
        itself = (refl, refl);
        in_turn = tt;
        few = λ f.
            let short : length w.waiters < 1024 = grind (arith, nat_tests) in
            let l = length-append w.waiters (new_waiter w m ∷ []) in omega (arith, l);
        ended = λ k h. absurd (other k h);
        refused = refl;
      }

  taken_goes : (m : Message) (o : Option Waiter) → sent_before m w.waiters ≡ o → BegunGoes w t (taken_in w m mishaps o)
  taken_goes m (Some old) e = again_goes m old e
  taken_goes m None e = behind_all m (nat_le max_waiters (length w.waiters)) refl

  let_by : (m : Message) (b : Bool) → BegunGoes w t (if b then turned_away w m mishaps else taken_in w m mishaps (sent_before m w.waiters))
  let_by m true = away_goes m
  let_by m false = taken_goes m (sent_before m w.waiters) refl

  cancel_goes : (k : ℕ) (target : Target) (o : Option Waiter) → waiter_named k target w.waiters ≡ o → BegunGoes w t (cancelling w k target mishaps o)
  cancel_goes k target None e =
      record {
        ids = tt;
        given = omega arith;
        stay = λ P. omega arith;
        all_stay = λ P h. omega arith;
        steps = λ P. refl;
        acts = λ P. refl;
        itself = (tt, omega arith);
        in_turn = tt;
        few = λ f. f;
        ended = λ j h. absurd (other j h);
        refused = refl;
      }
  cancel_goes k target (Some old) e =
      record {
        ids = tt;
        given = omega arith;
        stay = λ P. let p = left_counts (is_waiter_of P) k target old w.waiters e in omega (arith, p);
        all_stay = λ P h. let p = left_counts (is_waiter_of P) k target old w.waiters e in omega (arith, p);
        steps = λ P. refl;
        acts = λ P. refl;
        itself = (tt, omega arith);
        in_turn = tt;
        few = λ f. let l = left_length k target w.waiters in omega (arith, l);
        ended = λ j h. absurd (other j h);
        refused = refl;
      }

-- ---- any of these

heard_by : (w : WaitState) (t : WaitTurn) (m : Message) (b : Bool) → t.event ≡ Serves (Heard m)
    → BegunGoes w t (if b then let_in w m t.mishaps else served w t.now (Heard m) (staying_waiters w.waiters t.event) (later_mishaps t.mishaps)
    (next_mishap t.mishaps))
heard_by w t m true e = let_by w t t.mishaps (λ k h. cc) m (nat_le last_async_id w.ids_given)
heard_by w t m false e = served_goes w t (Heard m) (later_mishaps t.mishaps) (next_mishap t.mishaps)

pub begun_goes : (w : WaitState) (t : WaitTurn) (e : WaitEvent) → t.event ≡ e → BegunGoes w t (begun w t e)
begun_goes w t (Serves (Accept k)) e = served_goes w t (Accept k) (later_mishaps t.mishaps) (next_mishap t.mishaps)
begun_goes w t (Serves (Heard m)) e = heard_by w t m (not t.at_once && is_some (would_wait w.server m)) e
begun_goes w t (Serves (End k)) e = served_goes w t (End k) (later_mishaps t.mishaps) (next_mishap t.mishaps)
begun_goes w t (Serves Stop) e = served_goes w t Stop (later_mishaps t.mishaps) (next_mishap t.mishaps)
begun_goes w t (Cancels k target) e = cancel_goes w t t.mishaps (λ j h. cc) k target (waiter_named k target w.waiters) refl

-- ---- its steps are the server's

served_steps : (w : WaitState) (now : ℕ) (e : ServerEvent) (us : List Waiter) (rest : List (Option StepMishap)) (o : Option StepMishap)
    → AreSteps now (Serves e) w.server (served w now e us rest o).made (served w now e us rest o).waiting.server
served_steps w now e us rest None = (refl, refl, refl)
served_steps w now e us rest (Some (Lacks t)) = (refl, refl, refl)
served_steps w now e us rest (Some (Fails t count)) = (refl, refl, refl)

behind_steps : (w : WaitState) (now : ℕ) (e : WaitEvent) (m : Message) (mishaps : List (Option StepMishap)) (b : Bool)
    → AreSteps now e w.server (if b then turned_away w m mishaps else taken_behind w m mishaps).made
    (if b then turned_away w m mishaps else taken_behind w m mishaps).waiting.server
behind_steps w now e m mishaps true = refl
behind_steps w now e m mishaps false = refl

taken_steps : (w : WaitState) (now : ℕ) (e : WaitEvent) (m : Message) (mishaps : List (Option StepMishap)) (o : Option Waiter)
    → AreSteps now e w.server (taken_in w m mishaps o).made (taken_in w m mishaps o).waiting.server
taken_steps w now e m mishaps (Some old) = refl
taken_steps w now e m mishaps None = behind_steps w now e m mishaps (nat_le max_waiters (length w.waiters))

let_steps : (w : WaitState) (now : ℕ) (e : WaitEvent) (m : Message) (mishaps : List (Option StepMishap)) (b : Bool)
    → AreSteps now e w.server (if b then turned_away w m mishaps else taken_in w m mishaps (sent_before m w.waiters)).made
    (if b then turned_away w m mishaps else taken_in w m mishaps (sent_before m w.waiters)).waiting.server
let_steps w now e m mishaps true = refl
let_steps w now e m mishaps false = taken_steps w now e m mishaps (sent_before m w.waiters)

heard_steps : (w : WaitState) (t : WaitTurn) (m : Message) (b : Bool) → AreSteps t.now (Serves (Heard m)) w.server
    (if b then let_in w m t.mishaps else to_server w t (Heard m)).made
    (if b then let_in w m t.mishaps else to_server w t (Heard m)).waiting.server
heard_steps w t m true = let_steps w t.now (Serves (Heard m)) m t.mishaps (nat_le last_async_id w.ids_given)
heard_steps w t m false = served_steps w t.now (Heard m) _ _ (next_mishap t.mishaps)

cancel_steps : (w : WaitState) (now k : ℕ) (target : Target) (mishaps : List (Option StepMishap)) (o : Option Waiter)
    → AreSteps now (Cancels k target) w.server (cancelling w k target mishaps o).made (cancelling w k target mishaps o).waiting.server
cancel_steps w now k target mishaps None = refl
cancel_steps w now k target mishaps (Some old) = refl

pub begun_steps : (w : WaitState) (t : WaitTurn) (e : WaitEvent) → AreSteps t.now e w.server (begun w t e).made (begun w t e).waiting.server
begun_steps w t (Serves (Accept k)) = served_steps w t.now (Accept k) _ _ (next_mishap t.mishaps)
begun_steps w t (Serves (Heard m)) = heard_steps w t m (not t.at_once && is_some (would_wait w.server m))
begun_steps w t (Serves (End k)) = served_steps w t.now (End k) _ _ (next_mishap t.mishaps)
begun_steps w t (Serves Stop) = served_steps w t.now Stop _ _ (next_mishap t.mishaps)
begun_steps w t (Cancels k target) = cancel_steps w t.now k target t.mishaps (waiter_named k target w.waiters)
