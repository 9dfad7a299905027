-- The table of whom each number watches, behind a change.
use Rattle.std.specs.Prelude.{ℕ, ◌==◌, if◌then◌else◌}

-- the table with v at k
abbrev pub put_watch : (ℕ → ℕ) → ℕ → ℕ → ℕ → ℕ
put_watch f k v g = if g == k then v else f g
