-- The table, entry by entry, by computing.
use Rattle.std.proofs.Common.{◌≡◌, ℕ, zero, suc, ◌+◌, ◌*◌, ◌/◌, ◌%◌, ◌<◌, ◌&&◌, ◌∙◌, Bool, true, false, eqb, get_or, refl, arith, inl, inr}
use Rattle.std.proofs.lemmas.Bool.{cases_lt, eqb-true}
use Rattle.spec_journal.specs.Castagnoli.{coefficients, times_x, times_power}
use Rattle.journal.specs.declared.checksum.table.TheConstants.{TABLE}

unfoldable pub all_below : (ℕ → Bool) → ℕ → Bool
all_below p zero = true
all_below p (suc n) = p n && all_below p n

both : (a b : Bool) → (a && b) ≡ true → (a ≡ true) × (b ≡ true)
both true true e = (refl, refl)
both true false e = absurd cc
both false b e = absurd cc

at_below : (p : ℕ → Bool) (n k : ℕ) → all_below p n ≡ true → k < n → p k ≡ true
unfolding all_below
at_below p zero k e lt = absurd (omega arith)
at_below p (suc n) k e lt =
    let h = both (p n) (all_below p n) e in
    elim (cases_lt k n) [
      | inl below ↦ at_below p n k h.1 below
      | inr above ↦ let same : k ≡ n = omega arith in rw same h.0
    ]

table_test : all_below (λ k. eqb (get_or TABLE k 0) (times_power (8 * (k / 256 + 1)) (k % 256))) 2048 ≡ true
unfolding all_below times_power times_x coefficients
table_test = refl

at_entry : (k : ℕ) → k < 2048 → get_or TABLE k 0 ≡ times_power (8 * (k / 256 + 1)) (k % 256)
at_entry k lt =
    eqb-true (get_or TABLE k 0) (times_power (8 * (k / 256 + 1)) (k % 256))
    (at_below (λ j. eqb (get_or TABLE j 0) (times_power (8 * (j / 256 + 1)) (j % 256))) 2048 k table_test lt)

pub table_is : (more byte : ℕ) → more < 8 → byte < 256 → get_or TABLE (256 * more + byte) 0 ≡ times_power (8 * (more + 1)) byte
table_is more byte few small =
    let row : (256 * more + byte) / 256 ≡ more = omega (arith, small) in
    let place : (256 * more + byte) % 256 ≡ byte = omega (arith, small) in
    at_entry (256 * more + byte) (omega (arith, few, small)) ∙ (λ i. times_power (8 * (row i + 1)) (place i))
