-- The first that no range holds up, in the list as it is kept.
use Rattle.std.proofs.Common.{◌≡◌, ℕ, zero, suc, ◌+◌, ◌<◌, Bool, true, false, if◌then◌else◌, List, [], ◌∷◌, map, length, take, drop, slice_index_or}
use Rattle.std.proofs.Common.{refl, ap, sym, ◌∙◌, add-one, arith}
use Rattle.std.specs.Prelude.{is_some}
use Rattle.spec_exchange.specs.State as model
use Rattle.law_waiting.specs.held.Held.{would_wait}
use Rattle.law_waiting.specs.wait_steps.WaitStep.{AllHeld, FirstFree, Free, behind_held, first_free}
use Rattle.law_waiting.specs.wait_steps.WaitStep as waits
use Rattle.wait_locks.specs.Kept.{kept_message, waiter_of}
use Rattle.wait_locks.specs.declared.waiter.Waiter.{Waiter}

abbrev pub AreHeldBelow : model.Server → List Waiter → ℕ → Type 0
AreHeldBelow s ws n = (k : ℕ) → k < n → (d : Waiter) → is_some (would_wait s (kept_message (slice_index_or ws k d))) ≡ true

by_held : (b : Bool) (w : waits.Waiter) (ws : List waits.Waiter) (f : FirstFree) → b ≡ true → (if b then behind_held w f else Free [] w ws) ≡ behind_held w f
by_held true w ws f h = refl
by_held false w ws f h = absurd (cc)

by_free : (b : Bool) (w : waits.Waiter) (ws : List waits.Waiter) (f : FirstFree) → b ≡ false → (if b then behind_held w f else Free [] w ws) ≡ Free [] w ws
by_free true w ws f h = absurd (cc)
by_free false w ws f h = refl

below : (s : model.Server) (w : Waiter) (ws : List Waiter) (n : ℕ) → AreHeldBelow s (w ∷ ws) (suc n) → AreHeldBelow s ws n
below s w ws n h = λ k l d. h (suc k) (omega arith) d

pub all_held : (s : model.Server) (ws : List Waiter) → AreHeldBelow s ws (length ws) → first_free s (map waiter_of ws) ≡ AllHeld
unfolding first_free
all_held s [] h = refl
all_held s (w ∷ ws) h =
    by_held (is_some (would_wait s (kept_message w))) (waiter_of w) (map waiter_of ws) (first_free s (map waiter_of ws)) (h 0 (omega arith) w)
    ∙ ap (behind_held (waiter_of w)) (all_held s ws (below s w ws (length ws) h))

first_at : (s : model.Server) (ws : List Waiter) (i : ℕ) → i < length ws → AreHeldBelow s ws i
    → ((d : Waiter) → is_some (would_wait s (kept_message (slice_index_or ws i d))) ≡ false) → (d : Waiter)
    → first_free s (map waiter_of ws) ≡ Free (map waiter_of (take i ws)) (waiter_of (slice_index_or ws i d)) (map waiter_of (drop (suc i) ws))
unfolding first_free
first_at s [] i l h free d = absurd (omega arith)
first_at s (w ∷ ws) zero l h free d =
    by_free (is_some (would_wait s (kept_message w))) (waiter_of w) (map waiter_of ws) (first_free s (map waiter_of ws)) (free d)
first_at s (w ∷ ws) (suc i) l h free d =
    by_held (is_some (would_wait s (kept_message w))) (waiter_of w) (map waiter_of ws) (first_free s (map waiter_of ws)) (h 0 (omega arith) w)
    ∙ ap (behind_held (waiter_of w)) (first_at s ws i (omega arith) (below s w ws i h) free d)

pub first_there : (s : model.Server) (ws : List Waiter) (i : ℕ) → i < length ws → AreHeldBelow s ws i
    → ((d : Waiter) → is_some (would_wait s (kept_message (slice_index_or ws i d))) ≡ false) → (d : Waiter)
    → first_free s (map waiter_of ws) ≡ Free (map waiter_of (take i ws)) (waiter_of (slice_index_or ws i d)) (map waiter_of (drop (i + 1) ws))
first_there s ws i l h free d =
    first_at s ws i l h free d
    ∙ ap (λ n. Free (map waiter_of (take i ws)) (waiter_of (slice_index_or ws i d)) (map waiter_of (drop n ws))) (sym (add-one i))
