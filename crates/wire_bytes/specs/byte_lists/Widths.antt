-- Widths of fields that stand one behind the other.
use Rattle.std.specs.Prelude.{ℕ, ◌+◌, List, [], ◌∷◌}

-- how many bytes they take
abbrev pub total : List ℕ → ℕ
total [] = 0
total (w ∷ ws) = w + total ws
