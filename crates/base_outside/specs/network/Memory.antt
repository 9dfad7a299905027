-- What contracts see of links and nets in memory.
use Rattle.std.specs.Prelude.{ℕ, List, Bool, false, Option, None}
use Rattle.base_outside.specs.declared.streams.address.Address.{Address}

-- A link: what reads gave, what they have yet to give, what was written, whether a read gave the end, what is left of
-- the plan of its faults,
-- and how often it failed.
pub record LinkState : Type 0 where
  pub given : List ℕ
  pub left : List ℕ
  pub written : List ℕ
  pub ended : Bool
  pub failing : List ℕ
  pub faults : ℕ

-- One end of a link between two threads, which doesn't tell its bytes: which of the links that its net accepted it is, from 1, or 0.
pub record EndState : Type 0 where
  pub number : ℕ
  pub ended : Bool
  pub failing : List ℕ
  pub faults : ℕ

-- One side of a net: where it was told to listen, how many links it accepted, what is left of the plan of its faults, the plan that each
-- end of a link gets, and how often it failed.
pub record SideState : Type 0 where
  pub listens_at : Option Address
  pub accepted : ℕ
  pub failing : List ℕ
  pub link_failing : List ℕ
  pub faults : ℕ

-- An end of a link with which nothing was done.
abbrev pub new_end : ℕ → List ℕ → EndState
new_end number failing = record { number = number; ended = false; failing = failing; faults = 0 }

-- A side of a net with which nothing was done.
abbrev pub new_side : List ℕ → List ℕ → SideState
new_side failing link_failing = record { listens_at = None; accepted = 0; failing = failing; link_failing = link_failing; faults = 0 }
