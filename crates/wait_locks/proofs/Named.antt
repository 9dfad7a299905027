-- The first waiter that passes a test, in the list as it is kept.
use Rattle.std.proofs.Common.{◌≡◌, ℕ, zero, suc, ◌+◌, ◌<◌, Bool, true, false, if◌then◌else◌, List, [], ◌∷◌, ◌++◌, map, length, take, drop, slice_index_or}
use Rattle.std.proofs.Common.{Option, Some, None, refl, ap, sym, subst, ◌∙◌, ◌==◌, not, filter, add-one, arith}
use Rattle.law_waiting.specs.wait_steps.WaitStep.{Target, in_place, is_again, is_named, sent_before, waiter_named, without_connection, without_named}
use Rattle.law_waiting.specs.wait_steps.WaitStep as waits
use Rattle.wait_locks.proofs.Sends.{index_any}
use Rattle.wait_locks.specs.Shown.{Places}
use Rattle.spec_exchange.specs.State as model
use Rattle.wait_locks.specs.Kept.{kept_message, waiter_of}
use Rattle.wait_locks.specs.declared.waiter.Waiter.{Waiter}

abbrev pub AreNotBelow : (waits.Waiter → Bool) → List Waiter → ℕ → Type 0
AreNotBelow p ws n = (k : ℕ) → k < n → (d : Waiter) → p (waiter_of (slice_index_or ws k d)) ≡ false

abbrev found : (waits.Waiter → Bool) → List waits.Waiter → Option waits.Waiter
found p [] = None
found p (w ∷ ws) = if p w then Some w else found p ws

abbrev removed : (waits.Waiter → Bool) → List waits.Waiter → List waits.Waiter
removed p [] = []
removed p (w ∷ ws) = if p w then ws else w ∷ removed p ws

named_found : (k : ℕ) (target : Target) (ws : List waits.Waiter) → waiter_named k target ws ≡ found (is_named k target) ws
unfolding waiter_named
named_found k target [] = refl
named_found k target (w ∷ ws) = ap (λ z. if is_named k target w then Some w else z) (named_found k target ws)

named_removed : (k : ℕ) (target : Target) (ws : List waits.Waiter) → without_named k target ws ≡ removed (is_named k target) ws
unfolding without_named
named_removed k target [] = refl
named_removed k target (w ∷ ws) = ap (λ z. if is_named k target w then ws else w ∷ z) (named_removed k target ws)

when : {A : Type 0} (b : Bool) (x y : A) → b ≡ true → (if b then x else y) ≡ x
when true x y h = refl
when false x y h = absurd (cc)

unless : {A : Type 0} (b : Bool) (x y : A) → b ≡ false → (if b then x else y) ≡ y
unless true x y h = absurd (cc)
unless false x y h = refl

module _ (p : waits.Waiter → Bool) where
  below : (w : Waiter) (ws : List Waiter) (n : ℕ) → AreNotBelow p (w ∷ ws) (suc n) → AreNotBelow p ws n
  below w ws n h = λ k l d. h (suc k) (omega arith) d

  none_found : (ws : List Waiter) → AreNotBelow p ws (length ws) → found p (map waiter_of ws) ≡ None
  none_found [] h = refl
  none_found (w ∷ ws) h =
      unless (p (waiter_of w)) (Some (waiter_of w)) (found p (map waiter_of ws)) (h 0 (omega arith) w)
      ∙ none_found ws (below w ws (length ws) h)

  first_found : (ws : List Waiter) (i : ℕ) → i < length ws → AreNotBelow p ws i → ((d : Waiter) → p (waiter_of (slice_index_or ws i d)) ≡ true)
      → (d : Waiter) → found p (map waiter_of ws) ≡ Some (waiter_of (slice_index_or ws i d))
  first_found [] i l h y d = absurd (omega arith)
  first_found (w ∷ ws) zero l h y d = when (p (waiter_of w)) (Some (waiter_of w)) (found p (map waiter_of ws)) (y d)
  first_found (w ∷ ws) (suc i) l h y d =
      unless (p (waiter_of w)) (Some (waiter_of w)) (found p (map waiter_of ws)) (h 0 (omega arith) w)
      ∙ first_found ws i (omega arith) (below w ws i h) y d

  first_removed : (ws : List Waiter) (i : ℕ) → i < length ws → AreNotBelow p ws i → ((d : Waiter) → p (waiter_of (slice_index_or ws i d)) ≡ true)
      → removed p (map waiter_of ws) ≡ map waiter_of (take i ws) ++ map waiter_of (drop (suc i) ws)
  first_removed [] i l h y = absurd (omega arith)
  first_removed (w ∷ ws) zero l h y = when (p (waiter_of w)) (map waiter_of ws) (waiter_of w ∷ removed p (map waiter_of ws)) (y w)
  first_removed (w ∷ ws) (suc i) l h y =
      unless (p (waiter_of w)) (map waiter_of ws) (waiter_of w ∷ removed p (map waiter_of ws)) (h 0 (omega arith) w)
      ∙ ap (λ z. waiter_of w ∷ z) (first_removed ws i (omega arith) (below w ws i h) y)

again_found : (m : model.Message) (ws : List waits.Waiter) → sent_before m ws ≡ found (λ w. is_again m.command w.message.command) ws
unfolding sent_before
again_found m [] = refl
again_found m (w ∷ ws) = ap (λ z. if is_again m.command w.message.command then Some w else z) (again_found m ws)

module _ (new : Waiter) where
  abbrev pub again : waits.Waiter → Bool
  again w = is_again (kept_message new).command w.message.command

  pub none_again : (ws : List Waiter) → AreNotBelow again ws (length ws) → sent_before (kept_message new) (map waiter_of ws) ≡ None
  none_again ws h = again_found (kept_message new) (map waiter_of ws) ∙ none_found again ws h

  placed : (ws : List Waiter) (i : ℕ) → i < length ws → AreNotBelow again ws i → ((d : Waiter) → again (waiter_of (slice_index_or ws i d)) ≡ true)
      → Places new ws i
  unfolding in_place
  placed [] i l h y id = absurd (omega arith)
  placed (w ∷ ws) zero l h y id =
      let n : waits.Waiter = waiter_of (record new { async_id = id }) in
      when (again (waiter_of w)) (n ∷ map waiter_of ws) (waiter_of w ∷ in_place n (map waiter_of ws)) (y w)
  placed (w ∷ ws) (suc i) l h y id =
      let n : waits.Waiter = waiter_of (record new { async_id = id }) in
      unless (again (waiter_of w)) (n ∷ map waiter_of ws) (waiter_of w ∷ in_place n (map waiter_of ws)) (h 0 (omega arith) w)
      ∙ ap (λ z. waiter_of w ∷ z) (placed ws i (omega arith) (below again w ws i h) y id)

  pub one_again : (ws : List Waiter) (i : ℕ) → i < length ws → AreNotBelow again ws i → ((d : Waiter) → again (waiter_of (slice_index_or ws i d)) ≡ true) → (d : Waiter)
      → (sent_before (kept_message new) (map waiter_of ws) ≡ Some (waiter_of (slice_index_or ws i d))) × Places new ws i
  one_again ws i l h y d = (again_found (kept_message new) (map waiter_of ws) ∙ first_found again ws i l h y d, placed ws i l h y)

module _ (k : ℕ) (target : Target) (ws : List Waiter) where
  pub nobody : AreNotBelow (is_named k target) ws (length ws) → waiter_named k target (map waiter_of ws) ≡ None
  nobody h = named_found k target (map waiter_of ws) ∙ none_found (is_named k target) ws h

  pub somebody : (i : ℕ) → i < length ws → AreNotBelow (is_named k target) ws i
      → ((d : Waiter) → is_named k target (waiter_of (slice_index_or ws i d)) ≡ true) → (d : Waiter)
      → (waiter_named k target (map waiter_of ws) ≡ Some (waiter_of (slice_index_or ws i d)))
      × (without_named k target (map waiter_of ws) ≡ map waiter_of (take i ws) ++ map waiter_of (drop (i + 1) ws))
  somebody i l h y d = (
    named_found k target (map waiter_of ws) ∙ first_found (is_named k target) ws i l h y d,
    named_removed k target (map waiter_of ws) ∙ first_removed (is_named k target) ws i l h y
        ∙ ap (λ n. map waiter_of (take i ws) ++ map waiter_of (drop n ws)) (sym (add-one i)),
  )

pub any_index : (p : waits.Waiter → Bool) (ws : List Waiter) (i : ℕ) → i < length ws → (d : Waiter) → p (waiter_of (slice_index_or ws i d)) ≡ true
    → (e : Waiter) → p (waiter_of (slice_index_or ws i e)) ≡ true
any_index p ws i l d h e = let P : Waiter → Type 0 = λ z. p (waiter_of z) ≡ true in subst P (index_any ws i l d e) h

-- ---- those of other connections

others_by : (b : Bool) (k : ℕ) (w : Waiter) (ws : List Waiter)
    → map waiter_of (filter (λ (x : Waiter). not (x.connection == k)) ws) ≡ without_connection k (map waiter_of ws)
    → map waiter_of (if not b then w ∷ filter (λ (x : Waiter). not (x.connection == k)) ws else filter (λ (x : Waiter). not (x.connection == k)) ws)
    ≡ (if b then without_connection k (map waiter_of ws) else waiter_of w ∷ without_connection k (map waiter_of ws))
others_by true k w ws h = h
others_by false k w ws h = ap (λ z. waiter_of w ∷ z) h

pub others : (k : ℕ) (ws : List Waiter)
    → map waiter_of (filter (λ (w : Waiter). not (w.connection == k)) ws) ≡ without_connection k (map waiter_of ws)
unfolding without_connection
others k [] = refl
others k (w ∷ ws) = others_by (w.connection == k) k w ws (others k ws)
