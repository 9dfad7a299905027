-- A part whose place is told as 0 where it is empty, and a class that is known.
use Rattle.std.proofs.Common.{◌≡◌, ℕ, ◌+◌, ◌≤◌, ◌⊎◌, Bool, true, false, None, refl, inl, inr, arith}
use Rattle.std.specs.Prelude.{◌==◌, if◌then◌else◌}
use Rattle.std.proofs.lemmas.Grind.{common_steps}
use Rattle.spec_wire.specs.messages.Aligned.{told}
use Rattle.spec_wire.specs.messages.Classes.{class_fault}

none_where : (n : ℕ) → (n == 0) ≡ true → n ≡ 0
none_where n e = grind (arith, common_steps)

told_where : (empty : Bool) (n at fixed total : ℕ) → (empty ≡ true → n ≡ 0) → fixed ≤ at → at + n ≤ total
    → (n ≡ 0) ⊎ ((if empty then 0 else at) ≡ at) × (fixed ≤ at) × (at + n ≤ total)
told_where true n at fixed total none behind inside = inl (none refl)
told_where false n at fixed total none behind inside = inr (refl, behind, inside)

-- where there is a part, its place is the one that is told
pub told_stands : (n at fixed total : ℕ) → fixed ≤ at → at + n ≤ total → (n ≡ 0) ⊎ (told n at ≡ at) × (fixed ≤ at) × (at + n ≤ total)
told_stands n at fixed total behind inside = told_where (n == 0) n at fixed total (none_where n) behind inside

pub no_class_fault : (known : Bool) (class : ℕ) → known ≡ true → class_fault known class ≡ None
unfolding class_fault
no_class_fault true class e = refl
no_class_fault false class e = absurd cc

pub class_stands : (known : Bool) (class : ℕ) → class_fault known class ≡ None → known ≡ true
unfolding class_fault
class_stands true class e = refl
class_stands false class e = absurd cc
