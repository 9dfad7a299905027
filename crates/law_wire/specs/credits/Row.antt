-- How ids stand in a row.
use Rattle.std.specs.Prelude.{ℕ, ◌+◌, ◌≤◌, ◌<◌, List, [], ◌∷◌, length, slice_index_or}

-- each id is above the one before it, and none is below the low one
abbrev pub IsAscending : ℕ → List ℕ → Type 0
IsAscending low [] = Unit {0}
IsAscending low (x ∷ xs) = (low ≤ x) × IsAscending (x + 1) xs

abbrev pub AllLess : ℕ → List ℕ → Type 0
AllLess bound [] = Unit {0}
AllLess bound (x ∷ xs) = (x < bound) × AllLess bound xs

-- the ids below the first of a charge are those before the place
pub record IsSplitAt (first : ℕ) (xs : List ℕ) (place : ℕ) : Type 0 where
  pub within : place ≤ length xs
  pub below : (k d : ℕ) → k < place → slice_index_or xs k d < first
  pub above : (k d : ℕ) → place ≤ k → k < length xs → first ≤ slice_index_or xs k d
