-- Induction over runs at the end of the list of events: what holds at the start and is kept by one more event of a run
-- holds of each run. So a step may cite what is known of every run, before the event and behind it.
use Rattle.std.proofs.Common.{◌≡◌, ℕ, ◌+◌, Bool, true, false, if◌then◌else◌, List, [], ◌∷◌, ◌++◌, refl, arith, sym, subst}
use Rattle.spec_exchange.specs.Network.{World, Event, happens, run, start, Settings}
use Rattle.spec_exchange.specs.Runs.{acts, acts_now}
use Rattle.std.proofs.lemmas.List.{append-nil, append_assoc}
use Rattle.law_sessions.proofs.messages.Run.{after}

pub run_more : (es : List Event) (e : Event) (w : World) → run (es ++ e ∷ []) w ≡ happens (run es w) e
unfolding run
run_more [] e w = refl
run_more (x ∷ es) e w = run_more es e (happens w x)

one_at_end : (b : Bool) → (if b then 1 else 0) + 0 ≡ (if b then 0 + 1 else 0)
one_at_end true = omega arith
one_at_end false = omega arith

carried : (b : Bool) (x y n : ℕ) → n ≡ (if b then y + 1 else y) → x + n ≡ (if b then x + y + 1 else x + y)
carried true x y n e = omega (arith, e)
carried false x y n e = omega (arith, e)

pub acts_more : (es : List Event) (e : Event) (w : World) → acts (es ++ e ∷ []) w ≡ after (run es w) e (acts es w)
unfolding run acts
acts_more es e w = λ t g. more es e w g t
  where
    more : (es : List Event) (e : Event) (w : World) (g : ℕ) → acts (es ++ e ∷ []) w g ≡ after (run es w) e (acts es w) g
    more [] e w g = one_at_end (acts_now w e g)
    more (x ∷ es) e w g = carried (acts_now (run es (happens w x)) e g) (if acts_now w x g then 1 else 0)
        (acts es (happens w x) g) (acts (es ++ e ∷ []) (happens w x) g) (more es e (happens w x) g)

-- the world and the counts behind a run from the start
abbrev pub At : (World → (ℕ → ℕ) → Type 0) → Settings → List Event → Type 0
At P z es = P (run es (start z)) (acts es (start z))

abbrev pub Step : (World → (ℕ → ℕ) → Type 0) → Settings → Type 0
Step P z = (es : List Event) (e : Event) → At P z es → P (happens (run es (start z)) e) (after (run es (start z)) e (acts es (start z)))

one_further : (P : World → (ℕ → ℕ) → Type 0) (z : Settings) (es : List Event) (e : Event)
    → P (happens (run es (start z)) e) (after (run es (start z)) e (acts es (start z))) → At P z (es ++ e ∷ [])
one_further P z es e p = subst (λ w. P w (acts (es ++ e ∷ []) (start z))) (sym (run_more es e (start z)))
    (subst (λ a. P (happens (run es (start z)) e) a) (sym (acts_more es e (start z))) p)

from_there : (P : World → (ℕ → ℕ) → Type 0) (z : Settings) → Step P z → (before es : List Event) → At P z before → At P z (before ++ es)
from_there P z step before [] p = subst (λ xs. At P z xs) (sym (append-nil before)) p
from_there P z step before (e ∷ es) p = subst (λ xs. At P z xs) (append_assoc before (e ∷ []) es)
    (from_there P z step (before ++ e ∷ []) es (one_further P z before e (step before e p)))

at_start : (P : World → (ℕ → ℕ) → Type 0) (z : Settings) → P (start z) (λ g. 0) → At P z []
unfolding run acts
at_start P z p = p

-- what holds at the start, and behind each event of a run, holds of every run
pub on_every_run : (P : World → (ℕ → ℕ) → Type 0) (z : Settings) → P (start z) (λ g. 0) → Step P z → (es : List Event) → At P z es
on_every_run P z first step es = from_there P z step [] es (at_start P z first)

-- what holds of every run holds of one with one more event
pub one_event_on : (P : World → (ℕ → ℕ) → Type 0) (z : Settings) → ((es : List Event) → At P z es)
    → (es : List Event) (e : Event) → P (happens (run es (start z)) e) (after (run es (start z)) e (acts es (start z)))
one_event_on P z always es e = subst (λ w. P w (after (run es (start z)) e (acts es (start z))))
    (run_more es e (start z)) (subst (λ a. P (run (es ++ e ∷ []) (start z)) a) (acts_more es e (start z))
    (always (es ++ e ∷ [])))
