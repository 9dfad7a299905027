-- A LOCK that would wait comes, or is turned away.
use Rattle.std.proofs.Common.{◌≡◌, ℕ, ◌<◌, ◌&&◌, not, nat_le, Bool, true, false, if◌then◌else◌, List, length, Option, Some, None}
use Rattle.std.proofs.Common.{◌⊎◌, inl, inr, refl, ap, ◌∙◌, is_some, arith}
use Rattle.std.proofs.lemmas.Bool.Decides.{nat_tests}
use Rattle.spec_exchange.specs.State.{Message, Heard}
use Rattle.law_waiting.specs.held.Held.{would_wait}
use Rattle.law_waiting.specs.wait_steps.WaitStep.{Waiter, WaitState, WaitTurn, WaitAnswer, Response, Responses, StepMishap, WaitRefusal, Begun}
use Rattle.law_waiting.specs.wait_steps.WaitStep.{begun, lacking, last_async_id, let_in, max_waiters, new_waiter, result_of, sent_before}
use Rattle.law_waiting.specs.wait_steps.WaitStep.{standing_step, step_unless, taken_behind, taken_in, then_tried, to_server, tried, turned_away}
use Rattle.law_waiting.specs.wait_steps.WaitStep.{wait_step}
use Rattle.law_waiting.specs.wait_runs.WaitRuns.{HasOwnStatus, IsToWait, OwnHas}

abbrev tried_on : ℕ → Begun → WaitAnswer
tried_on now b = then_tried now b b.refusal

abbrev heard_as : WaitState → WaitTurn → Message → Bool → Begun
heard_as w t m b = if b then let_in w m t.mishaps else to_server w t (Heard m)

both : (a b : Bool) → a ≡ false → b ≡ true → (not a && b) ≡ true
both true b e f = absurd (cc)
both false b e f = f

at_let_in : (w : WaitState) (t : WaitTurn) (m : Message) → IsToWait w t m → wait_step w t ≡ tried_on t.now (let_in w m t.mishaps)
unfolding wait_step
at_let_in w t m h =
    let a : step_unless w t w.stopped ≡ standing_step w t = ap (step_unless w t) h.goes_on in
    let b : standing_step w t ≡ tried_on t.now (begun w t t.event) = ap
    (λ x. if x then lacking w t else tried_on t.now (begun w t t.event)) h.has_memory in
    let c : tried_on t.now (begun w t t.event) ≡ tried_on t.now (heard_as w t m (not t.at_once && is_some (would_wait w.server m)))
    = ap (λ e. tried_on t.now (begun w t e)) h.heard in
    let d : tried_on t.now (heard_as w t m (not t.at_once && is_some (would_wait w.server m))) ≡ tried_on t.now (heard_as w t m true)
    = ap (λ x. tried_on t.now (heard_as w t m x)) (both t.at_once (is_some (would_wait w.server m)) h.may_wait h.is_held) in
    a ∙ b ∙ c ∙ d

began_by : (now : ℕ) (b : Begun) (o : Option WaitRefusal) → (then_tried now b o).began ≡ b.began
began_by now b None = refl
began_by now b (Some refusal) = refl

-- ---- it comes

behind_comes : (w : WaitState) (m : Message) (xs : List (Option StepMishap)) (b : Bool) → b ≡ false
    → (if b then turned_away w m xs else taken_behind w m xs).began ≡ Some (new_waiter w m)
behind_comes w m xs true e = absurd (cc)
behind_comes w m xs false e = refl

taken_comes : (w : WaitState) (m : Message) (xs : List (Option StepMishap)) (o : Option Waiter)
    → (length w.waiters < 1024) ⊎ (is_some o ≡ true) → (taken_in w m xs o).began ≡ Some (new_waiter w m)
taken_comes w m xs (Some old) p = refl
taken_comes w m xs None (inl l) =
    let e : nat_le max_waiters (length w.waiters) ≡ false = grind (arith, nat_tests) in
    behind_comes w m xs (nat_le max_waiters (length w.waiters)) e
taken_comes w m xs None (inr e) = absurd (cc)

let_comes_by : (w : WaitState) (m : Message) (xs : List (Option StepMishap)) (b : Bool) → b ≡ false
    → (length w.waiters < 1024) ⊎ (is_some (sent_before m w.waiters) ≡ true)
    → (if b then turned_away w m xs else taken_in w m xs (sent_before m w.waiters)).began ≡ Some (new_waiter w m)
let_comes_by w m xs true e p = absurd (cc)
let_comes_by w m xs false e p = taken_comes w m xs (sent_before m w.waiters) p

pub comes_in : (w : WaitState) (t : WaitTurn) (m : Message) → IsToWait w t m → w.ids_given < 0xffff_ffff_ffff_ffff
    → (length w.waiters < 1024) ⊎ (is_some (sent_before m w.waiters) ≡ true) → (wait_step w t).began ≡ Some (new_waiter w m)
comes_in w t m h l p =
    let e : nat_le last_async_id w.ids_given ≡ false = grind (arith, nat_tests) in
    ap (λ (A : WaitAnswer). A.began) (at_let_in w t m h)
    ∙ began_by t.now (let_in w m t.mishaps) (let_in w m t.mishaps).refusal
    ∙ let_comes_by w m t.mishaps (nat_le last_async_id w.ids_given) e p

-- ---- it is turned away

behind_away : (w : WaitState) (m : Message) (xs : List (Option StepMishap)) (b : Bool)
    → (if b then turned_away w m xs else taken_behind w m xs).began ≡ None
    → OwnHas 0xc000_009a (if b then turned_away w m xs else taken_behind w m xs).replies.own
behind_away w m xs true e = refl
behind_away w m xs false e = absurd (cc)

taken_away : (w : WaitState) (m : Message) (xs : List (Option StepMishap)) (o : Option Waiter) → (taken_in w m xs o).began ≡ None
    → OwnHas 0xc000_009a (taken_in w m xs o).replies.own
taken_away w m xs (Some old) e = absurd (cc)
taken_away w m xs None e = behind_away w m xs (nat_le max_waiters (length w.waiters)) e

let_away : (w : WaitState) (m : Message) (xs : List (Option StepMishap)) (b : Bool)
    → (if b then turned_away w m xs else taken_in w m xs (sent_before m w.waiters)).began ≡ None
    → OwnHas 0xc000_009a (if b then turned_away w m xs else taken_in w m xs (sent_before m w.waiters)).replies.own
let_away w m xs true e = refl
let_away w m xs false e = taken_away w m xs (sent_before m w.waiters) e

result_has : (status : ℕ) (r : Responses) (ls : List Response) (o : Option ℕ) → OwnHas status r.own → HasOwnStatus status (result_of r ls o)
result_has status r ls None h = h
result_has status r ls (Some count) h = tt

answers_by : (status now : ℕ) (b : Begun) (o : Option WaitRefusal) → OwnHas status b.replies.own → HasOwnStatus status (then_tried now b o).result
answers_by status now b None h =
    let T = tried now b.waiting.server b.waiting.waiters b.mishaps (length b.waiting.waiters) in
    result_has status b.replies T.finals T.failed h
answers_by status now b (Some refusal) h = tt

pub is_away : (w : WaitState) (t : WaitTurn) (m : Message) → IsToWait w t m → (wait_step w t).began ≡ None
    → HasOwnStatus 0xc000_009a (wait_step w t).result
is_away w t m h e =
    let s : wait_step w t ≡ tried_on t.now (let_in w m t.mishaps) = at_let_in w t m h in
    let b : (tried_on t.now (let_in w m t.mishaps)).began ≡ None = rw s at e in
    let c : (let_in w m t.mishaps).began ≡ None = rw (began_by t.now (let_in w m t.mishaps) (let_in w m t.mishaps).refusal) at b in
    rw s (answers_by 0xc000_009a t.now (let_in w m t.mishaps) (let_in w m t.mishaps).refusal
    (let_away w m t.mishaps (nat_le last_async_id w.ids_given) c))
