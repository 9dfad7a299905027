-- How many of a list pass a test.
use Rattle.std.proofs.Common.{◌≡◌, ℕ, ◌+◌, ◌<◌, ◌≤◌, ◌==◌, Bool, true, false, if◌then◌else◌, List, [], ◌∷◌, ◌++◌, length, ◌⊎◌, inl, inr}
use Rattle.std.proofs.Common.{refl, ap, subst, arith}
use Rattle.std.specs.List.{AllByRecursion}
use Rattle.std.proofs.lemmas.Bool.Decides.{nat_tests}
use Rattle.law_waiting.specs.wait_steps.WaitStep.{Waiter, MadeStep, step_acted}
use Rattle.law_waiting.specs.wait_runs.WaitRuns.{CountsFrom, Test, acts_of, has_async_id, how_many, is_step_of, steps_of, waiters_of}

abbrev pub bit : Bool → ℕ
bit b = if b then 1 else 0

pub appended : {X : Type 0} (P : X → Bool) (xs ys : List X) → how_many P (xs ++ ys) ≡ how_many P xs + how_many P ys
appended P [] ys = omega arith
appended P (x ∷ xs) ys = let rest : how_many P (xs ++ ys) ≡ how_many P xs + how_many P ys = appended P xs ys in omega arith

pub all_appended : {X : Type 0} (P : X → Type 0) (xs ys : List X) → AllByRecursion P xs → AllByRecursion P ys → AllByRecursion P (xs ++ ys)
all_appended P [] ys h i = i
all_appended P (x ∷ xs) ys h i = (h.0, all_appended P xs ys h.1 i)

pub all_behind : {X : Type 0} (P : X → Type 0) (xs ys : List X) → AllByRecursion P (xs ++ ys) → AllByRecursion P ys
all_behind P [] ys h = h
all_behind P (x ∷ xs) ys h = all_behind P xs ys h.1

-- ---- acts are steps

pub bit_low : (a b : Bool) → bit (if a then b else false) ≤ bit b
bit_low true b = omega arith
bit_low false b = omega arith

pub acts_low : (P : Test) (xs : List MadeStep) → acts_of P xs ≤ steps_of P xs
acts_low P [] = omega arith
acts_low P (x ∷ xs) =
    let rest : acts_of P xs ≤ steps_of P xs = acts_low P xs in
    let here : bit (if step_acted x then is_step_of P x.waiter else false) ≤ bit (is_step_of P x.waiter) = bit_low (step_acted x)
    (is_step_of P x.waiter) in
    omega arith

-- ---- AsyncIds that count up

bit_of : (x a : ℕ) → ((x ≡ a) × (bit (x == a) ≡ 1)) ⊎ ((x ≡ a → ⊥) × (bit (x == a) ≡ 0))
bit_of x a = by (x == a) refl
  where
    by : (b : Bool) → (x == a) ≡ b → ((x ≡ a) × (bit (x == a) ≡ 1)) ⊎ ((x ≡ a → ⊥) × (bit (x == a) ≡ 0))
    by true e = let same : x ≡ a = grind (arith, nat_tests) in inl (same, ap bit e)
    by false e = inr ((λ h. grind (arith, nat_tests)), ap bit e)

pub counted_append : (n : ℕ) (xs ys : List Waiter) → CountsFrom n xs → CountsFrom (n + length xs) ys → CountsFrom n (xs ++ ys)
counted_append n [] ys h i = let e : n + 0 ≡ n = omega arith in subst (λ k. CountsFrom k ys) e i
counted_append n (x ∷ xs) ys h i =
    let e : n + length (x ∷ xs) ≡ (n + 1) + length xs = omega arith in
    (h.0, counted_append (n + 1) xs ys h.1 (subst (λ k. CountsFrom k ys) e i))

pub none_below : (a n : ℕ) (ws : List Waiter) → CountsFrom n ws → a ≤ n → waiters_of (has_async_id a) ws ≡ 0
none_below a n [] h l = refl
none_below a n (w ∷ ws) h l =
    let rest : waiters_of (has_async_id a) ws ≡ 0 = none_below a (n + 1) ws h.1 (omega arith) in
    let number : w.async_id ≡ n + 1 = h.0 in
    elim (bit_of w.async_id a) [ inl e ↦ absurd (let same : w.async_id ≡ a = e.0 in omega arith) | inr e ↦ let zero_bit : bit (w.async_id == a) ≡ 0 = e.1 in omega arith ]

pub none_above : (a n : ℕ) (ws : List Waiter) → CountsFrom n ws → n + length ws < a → waiters_of (has_async_id a) ws ≡ 0
none_above a n [] h l = refl
none_above a n (w ∷ ws) h l =
    let rest : waiters_of (has_async_id a) ws ≡ 0 = none_above a (n + 1) ws h.1 (omega arith) in
    let number : w.async_id ≡ n + 1 = h.0 in
    elim (bit_of w.async_id a) [ inl e ↦ absurd (let same : w.async_id ≡ a = e.0 in omega arith) | inr e ↦ let zero_bit : bit (w.async_id == a) ≡ 0 = e.1 in omega arith ]

pub one_at_most : (a n : ℕ) (ws : List Waiter) → CountsFrom n ws → waiters_of (has_async_id a) ws ≤ 1
one_at_most a n [] h = omega arith
one_at_most a n (w ∷ ws) h =
    let number : w.async_id ≡ n + 1 = h.0 in
    elim (bit_of w.async_id a) [
      | inl e ↦
          let same : w.async_id ≡ a = e.0 in
          let one_bit : bit (w.async_id == a) ≡ 1 = e.1 in
          let rest : waiters_of (has_async_id a) ws ≡ 0 = none_below a (n + 1) ws h.1 (omega arith) in omega arith
      | inr e ↦
          let zero_bit : bit (w.async_id == a) ≡ 0 = e.1 in
          let rest : waiters_of (has_async_id a) ws ≤ 1 = one_at_most a (n + 1) ws h.1 in omega arith
    ]
