-- Prices by index, with a bound from below for each block.
use Rattle.std.specs.Prelude.{ℕ, ◌+◌, ◌*◌, ◌/◌, ◌<◌, ◌≤◌, List, length, slice_index}

-- each one from a place to another is above the limit
abbrev pub AllAbove : ℕ → List ℕ → ℕ → ℕ → Type 0
AllAbove limit prices from n = (i : ℕ) → from ≤ i → i < n → limit < slice_index prices i

-- each one from a place to the end of the blocks before b
abbrev pub Before : ℕ → List ℕ → ℕ → ℕ → Type 0
Before limit prices from b = (i : ℕ) → from ≤ i → i < length prices → i < b * 128 → limit < slice_index prices i

-- the first one from a place on that is at most the limit
pub record IsFirstPrice (limit : ℕ) (prices : List ℕ) (from i : ℕ) : Type 0 where
  pub behind : from ≤ i
  pub within : i < length prices
  pub paid : slice_index prices i ≤ limit
  pub above : AllAbove limit prices from i

pub record PriceBounds (prices lows : List ℕ) : Type 0 where
  pub few : length lows * 128 < length prices + 128
  pub enough : length prices ≤ length lows * 128
  pub low : (i : ℕ) → i < length prices → slice_index lows (i / 128) ≤ slice_index prices i
  pub most : (b : ℕ) → slice_index lows b ≤ 255
