-- The next draw of a world.
use Rattle.std.specs.Prelude.{◌≡◌, ℕ, ◌+◌, List, take}
use Rattle.spec_world.specs.Settings.{draw}

-- its first 8 bytes, and their count behind it
abbrev pub ServeDraws : List ℕ → ℕ → ℕ → List ℕ → Type 0
ServeDraws seed old new fresh = (fresh ≡ take 8 (draw seed old)) × (new ≡ old + 1)
