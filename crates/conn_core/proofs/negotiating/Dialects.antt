-- The dialects of a NEGOTIATE, one after the other.
use Rattle.std.proofs.Common.{◌≡◌, ℕ, suc, ◌+◌, ◌-◌, ◌*◌, ◌<◌, ◌≤◌, ◌==◌, ◌||◌, Bool, true, false, List, refl, ap, sym, ◌∙◌, arith}
use Rattle.std.proofs.lemmas.Bool.Decides.{nat_tests}
use Rattle.spec_wire.specs.messages.Places.{number}
use Rattle.spec_wire.specs.messages.Offer.{ids_at, has_id}

-- 0x0311 is among those of the rest
abbrev pub later : List ℕ → ℕ → ℕ → Bool
later m k n = has_id 0x311 (ids_at m (2 * k) (n - k))

one_more : (m : List ℕ) (k n : ℕ) → k < n → later m k n ≡ ((number 2 m (2 * k) == 0x311) || later m (k + 1) n)
unfolding has_id ids_at
one_more m k n less =
    let count : n - k ≡ suc (n - (k + 1)) = omega (arith, less) in
    let place : 2 * k + 2 ≡ 2 * (k + 1) = omega arith in
    ap (λ (c : ℕ). has_id 0x311 (ids_at m (2 * k) c)) count
    ∙ ap (λ (p : ℕ). (number 2 m (2 * k) == 0x311) || has_id 0x311 (ids_at m p (n - (k + 1)))) place

not_true : (b : Bool) → (b ≡ true → ⊥) → b ≡ false
not_true true h = absurd (h refl)
not_true false h = refl

is_it : (id : ℕ) → (id == 0x311) ≡ true → id ≡ 0x311
is_it id e = grind (arith, nat_tests)

pub goes_on : (m : List ℕ) (k n id : ℕ) (all : Bool) → k < n → id ≡ number 2 m (2 * k) → (id ≡ 0x311 → ⊥) → later m k n ≡ all
    → later m (k + 1) n ≡ all
goes_on m k n id all less is other e =
    let here : (number 2 m (2 * k) == 0x311) ≡ false =
    ap (λ (x : ℕ). x == 0x311) (sym is) ∙ not_true (id == 0x311) (λ e. other (is_it id e)) in
    sym (ap (λ (b : Bool). b || later m (k + 1) n) here) ∙ (sym (one_more m k n less) ∙ e)

pub is_found : (m : List ℕ) (k n id : ℕ) (all : Bool) → k < n → id ≡ number 2 m (2 * k) → id ≡ 0x311 → later m k n ≡ all
    → true ≡ all
is_found m k n id all less is same e =
    let here : (number 2 m (2 * k) == 0x311) ≡ true = ap (λ (x : ℕ). x == 0x311) (sym is ∙ same) in
    sym (ap (λ (b : Bool). b || later m (k + 1) n) here) ∙ (sym (one_more m k n less) ∙ e)

pub is_none : (m : List ℕ) (k n : ℕ) (all : Bool) → n ≤ k → later m k n ≡ all → false ≡ all
unfolding has_id ids_at
is_none m k n all past e =
    let count : n - k ≡ 0 = omega (arith, past) in
    sym (ap (λ (c : ℕ). has_id 0x311 (ids_at m (2 * k) c)) count) ∙ e
