-- A test over all numbers below a bound.
use Rattle.std.proofs.Common.{◌≡◌, ℕ, zero, suc, ◌<◌, Bool, true, false, ◌&&◌, refl, arith, inl, inr}
use Rattle.std.proofs.lemmas.Bool.{cases_lt}

unfoldable pub all_below : (ℕ → Bool) → ℕ → Bool
all_below p zero = true
all_below p (suc n) = p n && all_below p n

pub both : (a b : Bool) → (a && b) ≡ true → (a ≡ true) × (b ≡ true)
both true true e = (refl, refl)
both true false e = absurd cc
both false b e = absurd cc

pub at_below : (p : ℕ → Bool) (n k : ℕ) → all_below p n ≡ true → k < n → p k ≡ true
unfolding all_below
at_below p zero k e lt = absurd (omega arith)
at_below p (suc n) k e lt =
    let h = both (p n) (all_below p n) e in
    elim (cases_lt k n) [
      | inl below ↦ at_below p n k h.1 below
      | inr above ↦ let same : k ≡ n = omega arith in rw same h.0
    ]
