-- The count of faults of an outside object.
use Rattle.std.specs.Prelude.{◌≡◌, ℕ, Bool, true, false, ◌+◌, ◌-◌, ◌^◌, ◌≤◌, min, Result, MatchResult}

-- A count is larger than it was, or stands at its last value.
abbrev pub Rose : ℕ → ℕ → Type 0
Rose old new = min (old + 1) (2 ^ 64 - 1) ≤ new

-- A call that answered keeps the count, and one that failed has raised it.
abbrev pub CountsFault : {T E : Type 0} → ℕ → ℕ → Result T E → Type 0
CountsFault old new result = MatchResult result (λ _. new ≡ old) (λ _. (old ≤ new) × Rose old new)

-- A call that doesn't fail keeps the count, and one that fails has raised it.
abbrev pub CountsWhere : Bool → ℕ → ℕ → Type 0
CountsWhere false old new = new ≡ old
CountsWhere true old new = (old ≤ new) × Rose old new
