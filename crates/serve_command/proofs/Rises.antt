-- A count of faults that a test tells to have risen.
use Rattle.std.proofs.Common.{◌≡◌, ℕ, ◌+◌, ◌-◌, ◌^◌, ◌<◌, ◌≤◌, min, Bool, true, false, arith, refl, sym, subst}
use Rattle.std.specs.Prelude.{nat_lt, ◌==◌, ◌||◌, ◌&&◌}
use Rattle.std.proofs.Math.Nat.{min-le_left, min-le_right}
use Rattle.std.proofs.lemmas.Bool.{ltb-true, eqb-true}
use Rattle.base_outside.specs.streams.Faults.{Rose}
use Rattle.serve_command.specs.Serving.{has_risen}

module _ (before now : ℕ) where
  below : before < now → Rose before now
  below less = let small = min-le_left (before + 1) (2 ^ 64 - 1) in omega (arith, small)

  last : now ≡ 18446744073709551615 → Rose before now
  last is = subst (λ n. min (before + 1) (2 ^ 64 - 1) ≤ n) (sym is) (min-le_right (before + 1) (2 ^ 64 - 1))

  by_tests : (less end : Bool) → nat_lt before now ≡ less → (now == 18446744073709551615) ≡ end → (less || end) ≡ true → Rose before now
  by_tests true end is_less is_end both = below (ltb-true before now is_less)
  by_tests false true is_less is_end both = last (eqb-true now 18446744073709551615 is_end)
  by_tests false false is_less is_end both = absurd (let h : false ≡ true = both in cc)

pub rises : (stopped : Bool) (before now : ℕ) → (stopped && has_risen before now) ≡ true → Rose before now
rises true before now both = by_tests before now (nat_lt before now) (now == 18446744073709551615) refl refl both
rises false before now both = absurd (let h : false ≡ true = both in cc)
