-- Operations are taken where they keep their limits, and stay as they are.
use Rattle.std.proofs.lemmas.Bool.{eqb-false}
use Rattle.std.proofs.Common.{◌≡◌, ℕ, ◌+◌, ◌<◌, ◌≤◌, ◌==◌, eqb-true, true, false, if◌then◌else◌, refl, sym, subst, arith}
use Rattle.spec_exchange.specs.State.{last_moment, no_later}
use Rattle.spec_exchange.specs.Operations.{Op, keeps_limits}
use Rattle.spec_exchange.specs.Client.{Client, may_take, take_op}
use Rattle.spec_exchange.specs.Network.{World, Event, Submit, Open, Push, Serve, Take, Cut, Drop, Restart, Crash, Wait, Finish, Settings}
use Rattle.spec_exchange.specs.Network.{happens, changed, later, moments, is_possible, run, start}
use Rattle.law_sessions.proofs.messages.Reached.{on_every_run}
use Rattle.law_server.proofs.tables.Logic.{either, front_of, back_of}
use Rattle.law_answers.proofs.completeness.Columns.{Taken, taken_on}
use Rattle.law_replies.specs.counters.Fits.{AreKept, CounterFits, OperationsFit}

one_less : (x t g : ℕ) → (x ≡ g → ⊥) → g ≡ t + 1 → x ≤ g → x ≤ t
one_less x t g d e l = omega (arith, d, e, l)

kept_take : (c : Client) (g : ℕ) (op : Op) → may_take c g op ≡ true → AreKept c → AreKept (take_op c g op)
kept_take c g op m h x low high =
    elim (x == g) as (λ b. x == g ≡ b → keeps_limits (if b then op else c.op x) ≡ true) [
      | true ↦ λ q. front_of (keeps_limits op) _ (back_of (g == c.taken + 1) _ m)
      | false ↦ λ q. h x low (one_less x c.taken g (eqb-false x g q) (eqb-true g (c.taken + 1) (front_of (g == c.taken + 1) _ m)) high)
    ] refl

kept_by : (c d : Client) → Taken c d → AreKept c → AreKept d
kept_by c d t h g low high =
    subst (λ (f : ℕ → Op). keeps_limits (f g) ≡ true) (sym t.op) (h g low (subst (λ n. g ≤ n) t.taken high))

kept_on : (w : World) (e : Event) → AreKept w.client → AreKept (happens w e).client
kept_on w (Submit g op) h =
    either AreKept (may_take w.client g op) (take_op w.client g op) w.client (λ m. kept_take w.client g op m h) (λ _. h)
kept_on w (Open k) h = kept_by w.client (happens w (Open k)).client (taken_on w (Open k) refl) h
kept_on w (Push k slotless pick) h =
    kept_by w.client (happens w (Push k slotless pick)).client (taken_on w (Push k slotless pick) refl) h
kept_on w (Serve k) h = kept_by w.client (happens w (Serve k)).client (taken_on w (Serve k) refl) h
kept_on w (Take k) h = kept_by w.client (happens w (Take k)).client (taken_on w (Take k) refl) h
kept_on w (Cut k) h = kept_by w.client (happens w (Cut k)).client (taken_on w (Cut k) refl) h
kept_on w (Drop k) h = kept_by w.client (happens w (Drop k)).client (taken_on w (Drop k) refl) h
kept_on w Restart h = h
kept_on w (Crash k kept) h = kept_by w.client (happens w (Crash k kept)).client (taken_on w (Crash k kept) refl) h
kept_on w (Wait n) h = h
kept_on w (Finish refusal) h = kept_by w.client (happens w (Finish refusal)).client (taken_on w (Finish refusal) refl) h

-- ---- the moment stands still at the last one

no_later_low : (m : ℕ) → no_later m ≤ last_moment
no_later_low m = omega arith

moment_on : (w : World) (e : Event) → w.moment ≤ last_moment → (happens w e).moment ≤ last_moment
moment_on w e l =
    either (λ (v : World). v.moment ≤ last_moment) (is_possible w e) (later (changed w e) (moments e)) w
    (λ _. no_later_low ((changed w e).moment + moments e)) (λ _. l)

-- ---- every run

none_taken : (g : ℕ) → 0 < g → g ≤ 0 → ⊥
none_taken g low high = omega (arith, low, high)

first_moment : 0 ≤ last_moment
first_moment = omega arith

begins : (z : Settings) → CounterFits (start z)
begins z = record { kept = λ g low high. absurd (none_taken g low high); moment = first_moment }

fits_on : (w : World) (e : Event) → CounterFits w → CounterFits (happens w e)
fits_on w e f = record { kept = kept_on w e f.kept; moment = moment_on w e f.moment }

pub operations_fit : OperationsFit
operations_fit z es = on_every_run (λ w a. CounterFits w) z (begins z) (λ xs e f. fits_on (run xs (start z)) e f) es
