-- Who is known to be held up is so behind a step that can't let him go.
use Rattle.std.proofs.Common.{◌≡◌, ℕ, ◌==◌, true, false, not, List, [], ◌∷◌, length, slice_index_or, refl, ap, sym, subst, ◌∙◌, arith}
use Rattle.std.proofs.lemmas.Bool.Decides.{nat_tests}
use Rattle.std.specs.Prelude.{is_some}
use Rattle.spec_exchange.specs.CheckOpen.{file_of}
use Rattle.spec_exchange.specs.State as model
use Rattle.spec_exchange.specs.Step.{step}
use Rattle.law_waiting.specs.held.Untouched.{UntouchedStays, leaves_waiters}
use Rattle.wait_locks.specs.Kept.{kept_message}
use Rattle.wait_locks.specs.Settled.{IsSettled, SettledBut, may_free}
use Rattle.wait_locks.specs.declared.touching.Touched.{Touched}
use Rattle.wait_locks.specs.declared.touching.Touched.TheVariants as touched
use Rattle.wait_locks.specs.declared.waiter.Waiter.{Waiter}

stays_so : (law : UntouchedStays) (s : model.Server) (now : ℕ) (e : model.ServerEvent) (k : Waiter) → IsSettled s k
    → length (step s now e).server.opens ≡ length s.opens → leaves_waiters s k.on e ≡ true → IsSettled (step s now e).server k
stays_so law s now e k h d l =
    let P : ℕ → Type 0 = λ f. leaves_waiters s f e ≡ true in
    let st = law s now e (kept_message k) k.file k.index k.number (k.element ∷ []) refl d (subst P h.on l) in
    record { held = ap is_some st.held ∙ h.held; on = h.on ∙ sym st.file }

pub stay_settled : (law : UntouchedStays) (t : Touched) (s : model.Server) (now : ℕ) (e : model.ServerEvent) (ws : List Waiter) → SettledBut t s ws
    → length (step s now e).server.opens ≡ length s.opens → ((f : ℕ) → may_free t f ≡ false → leaves_waiters s f e ≡ true)
    → SettledBut t (step s now e).server ws
stay_settled law t s now e ws h d l =
    λ i b w n. stays_so law s now e (slice_index_or ws i w) (h i b w n) d (l (slice_index_or ws i w).on n)

same_of : (a b : ℕ) → (a == b) ≡ true → a ≡ b
same_of a b h = grind (arith, nat_tests)

-- a waiter's own step takes ranges of its file alone
pub step_of_one : (t : Touched) (s : model.Server) (w : Waiter) → w.on ≡ file_of s w.file → may_free t w.on ≡ true → (f : ℕ) → may_free t f ≡ false
    → leaves_waiters s f (model.Heard (kept_message w)) ≡ true
step_of_one touched.Nothing s w e h f n = absurd (cc)
step_of_one (touched.File g) s w e h f n =
    ap not (ap (λ x. f == x) (sym e ∙ same_of w.on g h) ∙ n)
step_of_one touched.All s w e h f n = absurd (cc)
