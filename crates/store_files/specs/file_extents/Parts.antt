-- A file's bytes told part by part.
use Rattle.std.specs.Prelude.{◌≡◌, ℕ, ◌+◌, ◌<◌, ◌≤◌, List, length, take, Vec, Option, Some, None}
use Rattle.std.specs.Global.{Global}
use Rattle.spec_exchange.specs.Content.{written, ended}

-- the bytes before a place, and zeros from there on
abbrev pub up_to : ℕ → List ℕ → List ℕ
up_to at c = ended (length c) (take at c)

-- some bytes from a place on, at most so many, with which all are told up to their end
pub record IsFilePart (c : List ℕ) (at most place : ℕ) (bytes : List ℕ) : Type 0 where
  pub behind : at ≤ place
  pub some : 0 < length bytes
  pub few : length bytes ≤ most
  pub within : place + length bytes ≤ length c
  pub told : written place bytes (up_to at c) ≡ up_to (place + length bytes) c

-- a piece with bytes
abbrev pub IsFilled : Option (Vec ℕ Global) → Type 0
IsFilled None = ⊥
IsFilled (Some p) = 0 < length p.items

-- between two places no piece that begins there has bytes
abbrev pub AreEmpty : (ℕ → Option (Vec ℕ Global)) → ℕ → ℕ → Type 0
AreEmpty f at end = (k : ℕ) (p : Vec ℕ Global) → f k ≡ Some p → at ≤ k → k < end → length p.items ≡ 0
