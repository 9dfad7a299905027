-- A disk in memory with a draft beside it.
use Rattle.std.specs.Prelude.{ℕ, List}

-- Its bytes, those of the draft, how many a draft may have, what is left of the plan of its faults, and
-- how often it failed.
pub record RenewalState : Type 0 where
  pub bytes : List ℕ
  pub draft : List ℕ
  pub room : ℕ
  pub failing : List ℕ
  pub faults : ℕ
