-- The steps of a turn: nothing befalls one but the last, and only the event's own has no waiter.
use Rattle.std.proofs.Common.{◌≡◌, ℕ, zero, suc, Bool, true, false, List, [], ◌∷◌, ◌++◌, length, nat_le, Option, Some, None, refl, ap, sym, subst}
use Rattle.std.specs.Prelude.{is_some, not, ◌&&◌, if◌then◌else◌, ⊤}
use Rattle.spec_exchange.specs.State as model
use Rattle.law_waiting.specs.held.Held.{would_wait}
use Rattle.law_waiting.specs.wait_steps.WaitStep.{AllHeld, Begun, Fails, FirstFree, Free, Lacks, MadeStep, StepMishap, Tried, WaitAnswer, WaitRefusal, WaitState}
use Rattle.law_waiting.specs.wait_steps.WaitStep.{WaitTurn, begun, first_free, later_mishaps, next_mishap, standing_step, step_acted, step_unless, then_tried, tried, wait_step}
use Rattle.law_waiting.specs.wait_steps.WaitStep as waits
use Rattle.wait_locks.specs.Shown.{own_acted}
use Rattle.wait_locks.proofs.Going.{one_by, opened, round_by}

-- ---- lists of steps

abbrev pub OnlyLast : List MadeStep → Type 0
OnlyLast [] = ⊤
OnlyLast (x ∷ xs) = (is_some x.mishap ≡ true → xs ≡ []) × OnlyLast xs

abbrev pub AllWent : List MadeStep → Type 0
AllWent [] = ⊤
AllWent (x ∷ xs) = (is_some x.mishap ≡ false) × AllWent xs

never : {T : Type 0} (b : Bool) → b ≡ false → b ≡ true → T
never true e f = absurd (cc)
never false e f = absurd (cc)

behind_all : (xs ys : List MadeStep) → AllWent xs → OnlyLast ys → OnlyLast (xs ++ ys)
behind_all [] ys h g = g
behind_all (x ∷ xs) ys h g = (never (is_some x.mishap) h.0, behind_all xs ys h.1 g)

pub own_behind : (xs ys : List MadeStep) → own_acted ys ≡ false → own_acted (xs ++ ys) ≡ own_acted xs
own_behind [] ys h = h
own_behind (x ∷ xs) ys h = refl

-- ---- waiters' steps

record IsTrials (xs : List MadeStep) : Type 0 where
  last : OnlyLast xs
  quiet : own_acted xs ≡ false

kept : (ws : List waits.Waiter) (s : model.Server) (now : ℕ) (es : List waits.Waiter) (w : waits.Waiter) (x : StepMishap)
    → IsTrials (waits.kept_waiting ws (waits.trial s now es w (Some x)) x).made
kept ws s now es w (Lacks t) = record { last = (λ e. refl, tt); quiet = refl }
kept ws s now es w (Fails t count) = record { last = (λ e. refl, tt); quiet = refl }

first_went : (x : MadeStep) (xs : List MadeStep) → x.mishap ≡ None → is_some x.waiter ≡ true → IsTrials xs → IsTrials (x ∷ xs)
first_went x xs e w h = record {
  last = (never (is_some x.mishap) (ap is_some e), h.last);
  quiet = ap (λ b. not b && step_acted x) w;
}

by_one : (now : ℕ) (s : model.Server) (ws : List waits.Waiter) (ms : List (Option StepMishap)) (rounds : ℕ) (es : List waits.Waiter) (w : waits.Waiter)
    (ls : List waits.Waiter) (o : Option StepMishap)
    → IsTrials (tried now (waits.trial s now es w None).answer.server (es ++ ls) (later_mishaps ms) rounds).made
    → IsTrials (one_by now s ws ms rounds es w ls o).made
by_one now s ws ms rounds es w ls None h =
    first_went (waits.trial s now es w None) (tried now (waits.trial s now es w None).answer.server (es ++ ls) (later_mishaps ms) rounds).made refl refl h
by_one now s ws ms rounds es w ls (Some x) h = kept ws s now es w x

by_round : (rounds now : ℕ) (s : model.Server) (ws : List waits.Waiter) (ms : List (Option StepMishap)) (f : FirstFree)
    → ((t : model.Server) (us : List waits.Waiter) (ns : List (Option StepMishap)) → IsTrials (tried now t us ns rounds).made)
    → IsTrials (round_by now s ws ms rounds f).made
by_round rounds now s ws ms AllHeld later = record { last = tt; quiet = refl }
by_round rounds now s ws ms (Free es w ls) later =
    by_one now s ws ms rounds es w ls (next_mishap ms) (later (waits.trial s now es w None).answer.server (es ++ ls) (later_mishaps ms))

none_tried : (now : ℕ) (s : model.Server) (ws : List waits.Waiter) (ms : List (Option StepMishap)) → (tried now s ws ms zero).made ≡ []
unfolding tried
none_tried now s ws ms = refl

trials_of : (xs ys : List MadeStep) → xs ≡ ys → IsTrials ys → IsTrials xs
trials_of xs ys e h = let P : List MadeStep → Type 0 = IsTrials in subst P (sym e) h

all_trials : (rounds now : ℕ) (s : model.Server) (ws : List waits.Waiter) (ms : List (Option StepMishap)) → IsTrials (tried now s ws ms rounds).made
all_trials zero now s ws ms = trials_of (tried now s ws ms zero).made [] (none_tried now s ws ms) (record { last = tt; quiet = refl })
all_trials (suc rounds) now s ws ms =
    trials_of (tried now s ws ms (suc rounds)).made (round_by now s ws ms rounds (first_free s ws)).made
    (ap (λ (t : Tried). t.made) (opened now s ws ms rounds))
    (by_round rounds now s ws ms (first_free s ws) (λ t us ns. all_trials rounds now t us ns))

pub none_acted : (now : ℕ) (s : model.Server) (ws : List waits.Waiter) (ms : List (Option StepMishap)) (rounds : ℕ)
    → own_acted (tried now s ws ms rounds).made ≡ false
none_acted now s ws ms rounds = (all_trials rounds now s ws ms).quiet

-- ---- the event itself

record BeginsWell (b : Begun) : Type 0 where
  last : OnlyLast b.made
  went : b.refusal ≡ None → AllWent b.made

replied : (w : WaitState) (o : Option waits.Waiter) (own : Option waits.Response) (fs : List waits.Response) (ms : List (Option StepMishap))
    → BeginsWell (waits.with_replies w o own fs ms)
replied w o own fs ms = record { last = tt; went = λ e. tt }

by_if : (b : Bool) (x y : Begun) → BeginsWell x → BeginsWell y → BeginsWell (if b then x else y)
by_if true x y h g = h
by_if false x y h g = g

by_server : (w : WaitState) (now : ℕ) (e : model.ServerEvent) (ws : List waits.Waiter) (rest : List (Option StepMishap)) (o : Option StepMishap)
    → BeginsWell (waits.served w now e ws rest o)
by_server w now e ws rest None = record { last = (λ e. absurd (cc), tt); went = λ e. (refl, tt) }
by_server w now e ws rest (Some (Lacks t)) = record { last = (λ e. refl, tt); went = λ e. absurd (cc) }
by_server w now e ws rest (Some (Fails t count)) = record { last = (λ e. refl, tt); went = λ e. absurd (cc) }

by_cancel : (w : WaitState) (k : ℕ) (target : waits.Target) (ms : List (Option StepMishap)) (o : Option waits.Waiter)
    → BeginsWell (waits.cancelling w k target ms o)
by_cancel w k target ms None = record { last = tt; went = λ e. tt }
by_cancel w k target ms (Some x) = record { last = tt; went = λ e. tt }

by_place : (w : WaitState) (m : model.Message) (ms : List (Option StepMishap)) (o : Option waits.Waiter) → BeginsWell (waits.taken_in w m ms o)
by_place w m ms (Some x) = record { last = tt; went = λ e. tt }
by_place w m ms None =
    by_if (nat_le waits.max_waiters (length w.waiters)) (waits.turned_away w m ms) (waits.taken_behind w m ms) (record { last = tt; went = λ e. tt })
    (record { last = tt; went = λ e. tt })

by_letting : (w : WaitState) (m : model.Message) (ms : List (Option StepMishap)) → BeginsWell (waits.let_in w m ms)
by_letting w m ms =
    by_if (nat_le waits.last_async_id w.ids_given) (waits.turned_away w m ms) (waits.taken_in w m ms (waits.sent_before m w.waiters))
    (record { last = tt; went = λ e. tt }) (by_place w m ms (waits.sent_before m w.waiters))

to_server : (w : WaitState) (t : WaitTurn) (e : model.ServerEvent) → BeginsWell (waits.to_server w t e)
to_server w t e = by_server w t.now e (waits.staying_waiters w.waiters t.event) (later_mishaps t.mishaps) (next_mishap t.mishaps)

by_event : (w : WaitState) (t : WaitTurn) (e : model.ServerEvent) → BeginsWell (waits.begun_serving w t e)
by_event w t (model.Heard m) =
    by_if (not t.at_once && is_some (would_wait w.server m)) (waits.let_in w m t.mishaps) (waits.to_server w t (model.Heard m)) (by_letting w m t.mishaps)
    (to_server w t (model.Heard m))
by_event w t (model.Accept k) = to_server w t (model.Accept k)
by_event w t (model.End k) = to_server w t (model.End k)
by_event w t model.Stop = to_server w t model.Stop

begins_well : (w : WaitState) (t : WaitTurn) (e : waits.WaitEvent) → BeginsWell (begun w t e)
begins_well w t (waits.Serves e) = by_event w t e
begins_well w t (waits.Cancels k target) = by_cancel w k target t.mishaps (waits.waiter_named k target w.waiters)

-- ---- the turn

by_refusal : (now : ℕ) (b : Begun) (o : Option WaitRefusal) → b.refusal ≡ o → BeginsWell b → OnlyLast (then_tried now b o).made
by_refusal now b (Some r) e h = h.last
by_refusal now b None e h =
    behind_all b.made (tried now b.waiting.server b.waiting.waiters b.mishaps (length b.waiting.waiters)).made (h.went e)
    (all_trials (length b.waiting.waiters) now b.waiting.server b.waiting.waiters b.mishaps).last

by_lack : (b : Bool) (x y : WaitAnswer) → OnlyLast x.made → OnlyLast y.made → OnlyLast (if b then x else y).made
by_lack true x y h g = h
by_lack false x y h g = g

standing : (w : WaitState) (t : WaitTurn) → OnlyLast (standing_step w t).made
standing w t =
    by_lack t.lacks (waits.lacking w t) (then_tried t.now (begun w t t.event) (begun w t t.event).refusal) tt
    (by_refusal t.now (begun w t t.event) (begun w t t.event).refusal refl (begins_well w t t.event))

unless : (w : WaitState) (t : WaitTurn) (o : Option ℕ) → OnlyLast (step_unless w t o).made
unless w t None = standing w t
unless w t (Some count) = tt

pub turn_last : (w : WaitState) (t : WaitTurn) → OnlyLast (wait_step w t).made
unfolding wait_step
turn_last w t = unless w t w.stopped
