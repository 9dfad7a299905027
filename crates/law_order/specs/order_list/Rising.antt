-- Lists of places.
use Rattle.std.specs.Prelude.{ℕ, ◌+◌, ◌<◌, ◌≤◌, List, [], ◌∷◌}

-- each is higher than the one in front, and the first one at least this
abbrev pub RisesFrom : ℕ → List ℕ → Type 0
RisesFrom least [] = Unit {0}
RisesFrom least (n ∷ ns) = (least ≤ n) × RisesFrom (n + 1) ns

abbrev pub ArePlacesBelow : ℕ → List ℕ → Type 0
ArePlacesBelow top [] = Unit {0}
ArePlacesBelow top (n ∷ ns) = (n < top) × ArePlacesBelow top ns
