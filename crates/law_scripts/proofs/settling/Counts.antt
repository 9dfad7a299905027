-- How many restarts, Submits and pushes one event more makes.
use Rattle.std.proofs.Common.{◌≡◌, ℕ, ◌+◌, List, [], ◌∷◌, ◌++◌, refl, ap, arith}
use Rattle.spec_exchange.specs.Network.{Event, Submit, Open, Push, Serve, Take, Cut, Drop, Restart, Crash, Wait, Finish}
use Rattle.law_replies.specs.courses.Courses.{restarts_of, submits_of}
use Rattle.law_ties.specs.wire_facts.Steps.{restarts_in, submits_in}
use Rattle.spec_world.specs.Events.{ByteEvent, Plain, bytes_happen, bytes_run}
use Rattle.spec_world.specs.Settings.{WorldSettings}
use Rattle.spec_world.specs.Statements.{plainly, value_event, value_events}
use Rattle.spec_world.specs.World.{World}
use Rattle.law_scripts.proofs.settling.Numbers.{opens_of}

none_more : (n : ℕ) → n ≡ 0 + n
none_more n = omega arith

restarts_one : (x : Event) (xs : List Event) → restarts_in (x ∷ xs) ≡ restarts_of x + restarts_in xs
unfolding restarts_in
restarts_one (Submit g op) xs = none_more (restarts_in xs)
restarts_one (Open k) xs = none_more (restarts_in xs)
restarts_one (Push k slotless pick) xs = none_more (restarts_in xs)
restarts_one (Serve k) xs = none_more (restarts_in xs)
restarts_one (Take k) xs = none_more (restarts_in xs)
restarts_one (Cut k) xs = none_more (restarts_in xs)
restarts_one (Drop k) xs = none_more (restarts_in xs)
restarts_one Restart xs = refl
restarts_one (Crash k kept) xs = refl
restarts_one (Wait n) xs = none_more (restarts_in xs)
restarts_one (Finish refusal) xs = none_more (restarts_in xs)

submits_one : (x : Event) (xs : List Event) → submits_in (x ∷ xs) ≡ submits_of x + submits_in xs
unfolding submits_in
submits_one (Submit g op) xs = refl
submits_one (Open k) xs = none_more (submits_in xs)
submits_one (Push k slotless pick) xs = none_more (submits_in xs)
submits_one (Serve k) xs = none_more (submits_in xs)
submits_one (Take k) xs = none_more (submits_in xs)
submits_one (Cut k) xs = none_more (submits_in xs)
submits_one (Drop k) xs = none_more (submits_in xs)
submits_one Restart xs = none_more (submits_in xs)
submits_one (Crash k kept) xs = none_more (submits_in xs)
submits_one (Wait n) xs = none_more (submits_in xs)
submits_one (Finish refusal) xs = none_more (submits_in xs)

no_restarts : restarts_in [] ≡ 0
unfolding restarts_in
no_restarts = refl

no_submits : submits_in [] ≡ 0
unfolding submits_in
no_submits = refl

first_sum : (a b c n : ℕ) → a ≡ b + c → c ≡ 0 → n ≡ 0 → a ≡ n + b
first_sum a b c n e f g = omega (arith, e, f, g)

later_sum : (a b c d e f : ℕ) → a ≡ b + c → c ≡ d + e → f ≡ b + d → a ≡ f + e
later_sum a b c d e f p q r = omega (arith, p, q, r)

pub restarts_more : (es : List Event) (e : Event) → restarts_in (es ++ e ∷ []) ≡ restarts_in es + restarts_of e
restarts_more [] e = first_sum (restarts_in (e ∷ [])) (restarts_of e) (restarts_in []) (restarts_in [])
    (restarts_one e []) no_restarts no_restarts
restarts_more (x ∷ es) e =
    later_sum (restarts_in (x ∷ (es ++ e ∷ []))) (restarts_of x) (restarts_in (es ++ e ∷ [])) (restarts_in es) (restarts_of e)
    (restarts_in (x ∷ es)) (restarts_one x (es ++ e ∷ [])) (restarts_more es e) (restarts_one x es)

pub submits_more : (es : List Event) (e : Event) → submits_in (es ++ e ∷ []) ≡ submits_in es + submits_of e
submits_more [] e = first_sum (submits_in (e ∷ [])) (submits_of e) (submits_in []) (submits_in []) (submits_one e []) no_submits no_submits
submits_more (x ∷ es) e =
    later_sum (submits_in (x ∷ (es ++ e ∷ []))) (submits_of x) (submits_in (es ++ e ∷ [])) (submits_in es) (submits_of e)
    (submits_in (x ∷ es)) (submits_one x (es ++ e ∷ [])) (submits_more es e) (submits_one x es)

pub plainly_more : (es : List Event) (e : Event) → plainly es ++ Plain e ∷ [] ≡ plainly (es ++ e ∷ [])
unfolding plainly
plainly_more [] e = refl
plainly_more (x ∷ es) e = ap (λ (l : List ByteEvent). Plain x ∷ l) (plainly_more es e)

-- the model's event behind those before it
pub values_more : (z : WorldSettings) (es : List Event) (e : Event) (w : World)
    → value_events z w (es ++ e ∷ []) ≡ value_events z w es ++ value_event (bytes_run z (plainly es) w) e ∷ []
unfolding bytes_run plainly value_events
values_more z [] e w = refl
values_more z (x ∷ es) e w = ap (λ vs. value_event w x ∷ vs) (values_more z es e (bytes_happen z w (Plain x)))

pub opens_alike : (w : World) (e : Event) → opens_of (value_event w e) ≡ opens_of e
opens_alike w (Submit g op) = refl
opens_alike w (Open k) = refl
opens_alike w (Push k slotless pick) = refl
opens_alike w (Serve k) = refl
opens_alike w (Take k) = refl
opens_alike w (Cut k) = refl
opens_alike w (Drop k) = refl
opens_alike w Restart = refl
opens_alike w (Crash k kept) = refl
opens_alike w (Wait n) = refl
opens_alike w (Finish refusal) = refl
