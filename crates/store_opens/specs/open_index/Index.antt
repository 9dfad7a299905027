-- The index of deadlines.
use Rattle.std.specs.Prelude.{◌≡◌, ℕ, Bool, true, ◌||◌, Option, Some}
use Rattle.std.specs.BTreeSet.{contains}
use Rattle.std.specs.declared.cmp.Ordering.{Ordering}
use Rattle.std.specs.Ordering.{nat_cmp, ordering_then}
use Rattle.store_opens.specs.declared.open_index.index.Deadlines.{Deadlines}

abbrev pub pair_cmp : ℕ × ℕ → ℕ × ℕ → Ordering
pair_cmp x y = ordering_then (nat_cmp x.0 y.0) (nat_cmp x.1 y.1)

-- the deadline of this open is in it
abbrev pub indexes : Deadlines → ℕ → ℕ → Bool
indexes t d o = contains pair_cmp t.pending (d, o) || contains nat_cmp t.overdue o

-- each deadline is in it, unless memory ran out for one
abbrev pub IsOpenIndexed : Deadlines → (ℕ → Option ℕ) → Type 0
IsOpenIndexed t deadline = t.is_whole ≡ true → (o d : ℕ) → deadline o ≡ Some d → indexes t d o ≡ true
