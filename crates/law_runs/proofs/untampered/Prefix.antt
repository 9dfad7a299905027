-- The model's events have the restarts and the Submits of the run's, and a beginning of a run has no more of them.
use Rattle.std.proofs.Common.{◌≡◌, ℕ, ◌+◌, ◌≤◌, List, [], ◌∷◌, ◌++◌, refl, arith}
use Rattle.spec_exchange.specs.Network.{Event, Submit, Open, Push, Serve, Take, Cut, Drop, Restart, Crash, Wait, Finish}
use Rattle.spec_world.specs.Settings.{WorldSettings}
use Rattle.spec_world.specs.World.{World}
use Rattle.spec_world.specs.Events.{Plain, bytes_happen}
use Rattle.spec_world.specs.Statements.{value_event, value_events}
use Rattle.law_ties.specs.wire_facts.Steps.{restarts_in, submits_in}
use Rattle.law_replies.proofs.counters.Epoch.{begins}
use Rattle.law_replies.proofs.counters.Bounds.{takes, restarts_one, submits_one}

-- ---- the model's event

begins_same : (w : World) (e : Event) → begins (value_event w e) ≡ begins e
unfolding restarts_in
begins_same w (Submit g op) = refl
begins_same w (Open k) = refl
begins_same w (Push k slotless pick) = refl
begins_same w (Serve k) = refl
begins_same w (Take k) = refl
begins_same w (Cut k) = refl
begins_same w (Drop k) = refl
begins_same w Restart = refl
begins_same w (Crash k kept) = refl
begins_same w (Wait n) = refl
begins_same w (Finish refusal) = refl

takes_same : (w : World) (e : Event) → takes (value_event w e) ≡ takes e
unfolding submits_in
takes_same w (Submit g op) = refl
takes_same w (Open k) = refl
takes_same w (Push k slotless pick) = refl
takes_same w (Serve k) = refl
takes_same w (Take k) = refl
takes_same w (Cut k) = refl
takes_same w (Drop k) = refl
takes_same w Restart = refl
takes_same w (Crash k kept) = refl
takes_same w (Wait n) = refl
takes_same w (Finish refusal) = refl

same_sum : (a b c d e f : ℕ) → a ≡ b + c → d ≡ e + f → b ≡ e → c ≡ f → a ≡ d
same_sum a b c d e f p q r s = omega (arith, p, q, r, s)

pub restarts_same : (z : WorldSettings) (es : List Event) (w : World) → restarts_in (value_events z w es) ≡ restarts_in es
unfolding value_events
restarts_same z [] w = refl
restarts_same z (e ∷ es) w =
    let rest = value_events z (bytes_happen z w (Plain e)) es in
    same_sum (restarts_in (value_event w e ∷ rest)) (begins (value_event w e)) (restarts_in rest) (restarts_in (e ∷ es)) (begins e)
    (restarts_in es) (restarts_one (value_event w e) rest) (restarts_one e es) (begins_same w e)
    (restarts_same z es (bytes_happen z w (Plain e)))

pub submits_same : (z : WorldSettings) (es : List Event) (w : World) → submits_in (value_events z w es) ≡ submits_in es
unfolding value_events
submits_same z [] w = refl
submits_same z (e ∷ es) w =
    let rest = value_events z (bytes_happen z w (Plain e)) es in
    same_sum (submits_in (value_event w e ∷ rest)) (takes (value_event w e)) (submits_in rest) (submits_in (e ∷ es)) (takes e)
    (submits_in es) (submits_one (value_event w e) rest) (submits_one e es) (takes_same w e)
    (submits_same z es (bytes_happen z w (Plain e)))

-- ---- a beginning

no_less : (n : ℕ) → 0 ≤ n
no_less n = omega arith

more_sum : (a b c d e : ℕ) → a ≡ b + c → d ≡ b + e → c ≤ e → a ≤ d
more_sum a b c d e p q l = omega (arith, p, q, l)

pub restarts_part : (xs ys : List Event) → restarts_in xs ≤ restarts_in (xs ++ ys)
unfolding restarts_in
restarts_part [] ys = no_less (restarts_in ys)
restarts_part (x ∷ xs) ys =
    more_sum (restarts_in (x ∷ xs)) (begins x) (restarts_in xs) (restarts_in (x ∷ (xs ++ ys))) (restarts_in (xs ++ ys))
    (restarts_one x xs) (restarts_one x (xs ++ ys)) (restarts_part xs ys)

pub submits_part : (xs ys : List Event) → submits_in xs ≤ submits_in (xs ++ ys)
unfolding submits_in
submits_part [] ys = no_less (submits_in ys)
submits_part (x ∷ xs) ys =
    more_sum (submits_in (x ∷ xs)) (takes x) (submits_in xs) (submits_in (x ∷ (xs ++ ys))) (submits_in (xs ++ ys))
    (submits_one x xs) (submits_one x (xs ++ ys)) (submits_part xs ys)
