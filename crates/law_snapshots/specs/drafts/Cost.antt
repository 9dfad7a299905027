-- What it costs to write a journal anew again and again.
use Rattle.std.specs.Prelude.{ℕ, ◌+◌, ◌*◌, ◌≤◌, List, [], ◌∷◌}

-- between two snapshots: the bytes that were appended, and those of the snapshot that then takes the journal's place
pub record Rewriting : Type 0 where
  pub appended : ℕ
  pub snapshot : ℕ

abbrev pub all_appended : List Rewriting → ℕ
all_appended [] = 0
all_appended (x ∷ xs) = x.appended + all_appended xs

abbrev pub all_snapshots : List Rewriting → ℕ
all_snapshots [] = 0
all_snapshots (x ∷ xs) = x.snapshot + all_snapshots xs

-- Behind a snapshot of so many bytes: each that follows is at least a third smaller than the journal that it replaces.
abbrev pub AreWorthwhile : ℕ → List Rewriting → Type 0
AreWorthwhile last [] = Unit {0}
AreWorthwhile last (x ∷ xs) = (3 * x.snapshot ≤ 2 * (last + x.appended)) × AreWorthwhile x.snapshot xs
