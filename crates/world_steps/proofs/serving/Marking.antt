-- The marks of one operation are set.
use Rattle.std.proofs.Common.{◌≡◌, ℕ, zero, suc, ◌<◌, Bool, refl, ap, ◌∙◌, arith, List, [], ◌∷◌, length, set}
use Rattle.std.proofs.Math.ListN.{length-set}
use Rattle.world_ends.specs.Places.{marks_at}
use Rattle.world_ends.specs.declared.world.Marks.{Marks}
use Rattle.world_steps.specs.serving.Noted.{MarksOne, noted_by}

none_below : (n : ℕ) → n < 0 → ⊥
none_below n l = omega (arith, l)

set_at : (xs : List Marks) (g : ℕ) (v : Marks) → g < length xs → marks_at (set xs g v) g ≡ v
set_at [] g v l = absurd (none_below g l)
set_at (y ∷ xs) zero v l = refl
set_at (y ∷ xs) (suc g) v l = set_at xs g v (let m : g < length xs = omega (arith, l) in m)

set_other : (xs : List Marks) (g j : ℕ) (v : Marks) → (j ≡ g → ⊥) → marks_at (set xs g v) j ≡ marks_at xs j
set_other [] g j v other = refl
set_other (y ∷ xs) zero zero v other = absurd (other refl)
set_other (y ∷ xs) zero (suc j) v other = refl
set_other (y ∷ xs) (suc g) zero v other = refl
set_other (y ∷ xs) (suc g) (suc j) v other = set_other xs g j v (λ e. other (ap suc e))

pub marks_set : (xs : List Marks) (g place behind : ℕ) (makes : Bool) (v : Marks) → g < length xs
    → v ≡ noted_by makes place behind (marks_at xs g) → MarksOne xs g place behind makes (set xs g v)
marks_set xs g place behind makes v l e = record {
  counted = length-set xs g v;
  here = set_at xs g v l ∙ e;
  there = λ j other. set_other xs g j v other;
}
