-- The list of waiters with one in another's place, without one, without those of a connection.
use Rattle.std.proofs.Common.{◌≡◌, ℕ, suc, ◌+◌, ◌≤◌, ◌==◌, Bool, true, false, if◌then◌else◌, List, [], ◌∷◌, length, Some}
use Rattle.std.proofs.Common.{refl, ap, sym, subst, arith}
use Rattle.spec_exchange.specs.State.{Accept, Heard, End, Stop}
use Rattle.law_waiting.specs.wait_steps.WaitStep.{Waiter, WaitEvent, Serves, Cancels, Target, in_place, is_again, is_named, staying_waiters}
use Rattle.law_waiting.specs.wait_steps.WaitStep.{waiter_named, sent_before, without_connection, without_named}
use Rattle.law_waiting.specs.wait_runs.WaitRuns.{how_many, is_end}
use Rattle.law_waiting.proofs.wait_runs.Counting.{bit}

-- ---- one comes into the place of another

placed : (b : Bool) (p : Waiter → Bool) (new old w : Waiter) (ws : List Waiter)
    → (sent_before new.message ws ≡ Some old → how_many p (in_place new ws) + bit (p old) ≡ how_many p ws + bit (p new))
    → (if b then Some w else sent_before new.message ws) ≡ Some old
    → how_many p (if b then new ∷ ws else w ∷ in_place new ws) + bit (p old) ≡ how_many p (w ∷ ws) + bit (p new)
placed true p new old w ws rest h =
    let same : w ≡ old = cc in let e : bit (p w) ≡ bit (p old) = ap (λ x. bit (p x)) same in omega arith
placed false p new old w ws rest h =
    let i : how_many p (in_place new ws) + bit (p old) ≡ how_many p ws + bit (p new) = rest h in omega arith

pub place_counts : (p : Waiter → Bool) (new old : Waiter) (ws : List Waiter) → sent_before new.message ws ≡ Some old
    → how_many p (in_place new ws) + bit (p old) ≡ how_many p ws + bit (p new)
unfolding sent_before in_place
place_counts p new old [] h = absurd (cc)
place_counts p new old (w ∷ ws) h = placed (is_again new.message.command w.message.command) p new old w ws (place_counts p new old ws) h

place_length_by : (b : Bool) (new w : Waiter) (ws : List Waiter) → length (in_place new ws) ≡ length ws
    → length (if b then new ∷ ws else w ∷ in_place new ws) ≡ length (w ∷ ws)
place_length_by true new w ws h = refl
place_length_by false new w ws h = ap suc h

pub place_length : (new : Waiter) (ws : List Waiter) → length (in_place new ws) ≡ length ws
unfolding in_place
place_length new [] = refl
place_length new (w ∷ ws) = place_length_by (is_again new.message.command w.message.command) new w ws (place_length new ws)

-- ---- one leaves

left_by : (b : Bool) (p : Waiter → Bool) (k : ℕ) (target : Target) (old w : Waiter) (ws : List Waiter)
    → (waiter_named k target ws ≡ Some old → how_many p (without_named k target ws) + bit (p old) ≡ how_many p ws)
    → (if b then Some w else waiter_named k target ws) ≡ Some old
    → how_many p (if b then ws else w ∷ without_named k target ws) + bit (p old) ≡ how_many p (w ∷ ws)
left_by true p k target old w ws rest h =
    let same : w ≡ old = cc in let e : bit (p w) ≡ bit (p old) = ap (λ x. bit (p x)) same in omega arith
left_by false p k target old w ws rest h =
    let i : how_many p (without_named k target ws) + bit (p old) ≡ how_many p ws = rest h in omega arith

pub left_counts : (p : Waiter → Bool) (k : ℕ) (target : Target) (old : Waiter) (ws : List Waiter) → waiter_named k target ws ≡ Some old
    → how_many p (without_named k target ws) + bit (p old) ≡ how_many p ws
unfolding waiter_named without_named
left_counts p k target old [] h = absurd (cc)
left_counts p k target old (w ∷ ws) h = left_by (is_named k target w) p k target old w ws (left_counts p k target old ws) h

left_length_by : (b : Bool) (k : ℕ) (target : Target) (w : Waiter) (ws : List Waiter) → length (without_named k target ws) ≤ length ws
    → length (if b then ws else w ∷ without_named k target ws) ≤ length (w ∷ ws)
left_length_by true k target w ws h = omega arith
left_length_by false k target w ws h = omega arith

pub left_length : (k : ℕ) (target : Target) (ws : List Waiter) → length (without_named k target ws) ≤ length ws
unfolding without_named
left_length k target [] = omega arith
left_length k target (w ∷ ws) = left_length_by (is_named k target w) k target w ws (left_length k target ws)

-- ---- those of a connection leave

gone_by : (b : Bool) (p : Waiter → Bool) (k : ℕ) (w : Waiter) (ws : List Waiter) → how_many p (without_connection k ws) ≤ how_many p ws
    → how_many p (if b then without_connection k ws else w ∷ without_connection k ws) ≤ how_many p (w ∷ ws)
gone_by true p k w ws h = omega arith
gone_by false p k w ws h = omega arith

gone_low : (p : Waiter → Bool) (k : ℕ) (ws : List Waiter) → how_many p (without_connection k ws) ≤ how_many p ws
unfolding without_connection
gone_low p k [] = omega arith
gone_low p k (w ∷ ws) = gone_by (w.message.connection == k) p k w ws (gone_low p k ws)

gone_length_by : (b : Bool) (k : ℕ) (w : Waiter) (ws : List Waiter) → length (without_connection k ws) ≤ length ws
    → length (if b then without_connection k ws else w ∷ without_connection k ws) ≤ length (w ∷ ws)
gone_length_by true k w ws h = omega arith
gone_length_by false k w ws h = omega arith

gone_length : (k : ℕ) (ws : List Waiter) → length (without_connection k ws) ≤ length ws
unfolding without_connection
gone_length k [] = omega arith
gone_length k (w ∷ ws) = gone_length_by (w.message.connection == k) k w ws (gone_length k ws)

abbrev on_connection : ℕ → Waiter → Bool
on_connection k w = w.message.connection == k

gone_all_by : (b : Bool) (k : ℕ) (w : Waiter) (ws : List Waiter) → on_connection k w ≡ b
    → how_many (on_connection k) (without_connection k ws) ≡ 0
    → how_many (on_connection k) (if b then without_connection k ws else w ∷ without_connection k ws) ≡ 0
gone_all_by true k w ws e h = h
gone_all_by false k w ws e h = let z : bit (on_connection k w) ≡ 0 = ap bit e in omega arith

gone_all : (k : ℕ) (ws : List Waiter) → how_many (on_connection k) (without_connection k ws) ≡ 0
unfolding without_connection
gone_all k [] = refl
gone_all k (w ∷ ws) = gone_all_by (w.message.connection == k) k w ws refl (gone_all k ws)

-- ---- what an event leaves

pub behind_low : (p : Waiter → Bool) (ws : List Waiter) (e : WaitEvent) → how_many p (staying_waiters ws e) ≤ how_many p ws
behind_low p ws (Serves (Accept k)) = omega arith
behind_low p ws (Serves (Heard m)) = omega arith
behind_low p ws (Serves (End k)) = gone_low p k ws
behind_low p ws (Serves Stop) = omega arith
behind_low p ws (Cancels k target) = omega arith

pub behind_length : (ws : List Waiter) (e : WaitEvent) → length (staying_waiters ws e) ≤ length ws
behind_length ws (Serves (Accept k)) = omega arith
behind_length ws (Serves (Heard m)) = omega arith
behind_length ws (Serves (End k)) = gone_length k ws
behind_length ws (Serves Stop) = omega arith
behind_length ws (Cancels k target) = omega arith

pub behind_same : (ws : List Waiter) (e : WaitEvent) → is_end e ≡ false → staying_waiters ws e ≡ ws
behind_same ws (Serves (Accept k)) h = refl
behind_same ws (Serves (Heard m)) h = refl
behind_same ws (Serves (End k)) h = absurd (cc)
behind_same ws (Serves Stop) h = absurd (cc)
behind_same ws (Cancels k target) h = refl

pub behind_ended : (k : ℕ) (ws : List Waiter) (e : WaitEvent) → e ≡ Serves (End k)
    → how_many (on_connection k) (staying_waiters ws e) ≡ 0
behind_ended k ws e h = subst (λ x. how_many (on_connection k) (staying_waiters ws x) ≡ 0) (sym h) (gone_all k ws)
