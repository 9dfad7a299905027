-- What contracts see of the source and the sink in memory.
use Rattle.std.specs.Prelude.{ℕ, List, Bool, ◌==◌, slice_index}

-- A source: the bytes that it has left, what is left of the plan of its faults, and how often it failed.
pub record SourceState : Type 0 where
  pub left : List ℕ
  pub failing : List ℕ
  pub faults : ℕ

-- A sink: the bytes that it has taken, what is left of the plan of its faults, and how often it failed.
pub record SinkState : Type 0 where
  pub written : List ℕ
  pub failing : List ℕ
  pub faults : ℕ

-- In a plan 1 stands for a call that fails; calls past its end do not fail.
abbrev pub next_fails : List ℕ → Bool
next_fails plan = slice_index plan 0 == 1

-- A disk: its bytes, what is left of the plan of its faults, and how often it failed.
pub record DiskState : Type 0 where
  pub bytes : List ℕ
  pub failing : List ℕ
  pub faults : ℕ
