-- Which of many numbered ranges covers a byte last, as a table by bytes: a key tells it for its byte and those behind it, as
-- far as it says.
use Rattle.std.specs.Prelude.{◌≡◌, ℕ, zero, suc, ◌+◌, ◌<◌, ◌≤◌, ◌^◌, nat_le, nat_lt, Bool, ◌&&◌, if◌then◌else◌, List}
use Rattle.std.specs.Prelude.{◌++◌, length, slice_index, Option, Some, None, ◌⊎◌, ◌==◌, ◌||◌}
use Rattle.base_lists.specs.declared.range_index.keys.Reach.{Reach}

-- the number that a key tells of the byte so many behind it, or 0
abbrev pub range_told : Reach → ℕ → ℕ
range_told reach far = if (reach.more == 4294967295) || nat_le far reach.more then reach.number else 0

-- what the greatest key that isn't above a byte tells of the byte so many behind that one, or 0
unfoldable pub look : (ℕ → Option Reach) → ℕ → ℕ → ℕ
look keys zero far = elim (keys 0) [ Some reach ↦ range_told reach far | None ↦ 0 ]
look keys (suc x) far = elim (keys (suc x)) [ Some reach ↦ range_told reach far | None ↦ look keys x (suc far) ]

-- what the greatest key that isn't above a byte tells of it, or 0
abbrev pub top_in : (ℕ → Option Reach) → ℕ → ℕ
top_in keys x = look keys x 0

-- the byte lies in the range
abbrev pub is_in : ℕ → ℕ → ℕ → Bool
is_in at size x = nat_le at x && nat_lt x (at + size)

-- the range covers its bytes, last of all
abbrev pub Covers : (old new : ℕ → ℕ) (at size number : ℕ) → Type 0
Covers old new at size number = (x : ℕ) → x < 2 ^ 64 → new x ≡ (if is_in at size x then number else old x)

-- a range left where it covered a byte, or stayed
abbrev pub Forgets : (old new : ℕ → ℕ) (number : ℕ) → Type 0
Forgets old new number = (x : ℕ) → x < 2 ^ 64 → (new x ≡ old x) ⊎ ((old x ≡ number) × (new x ≡ 0))

-- a byte of a range that a number covers last
pub record IsTop (top : ℕ → ℕ) (at size number : ℕ) : Type 0 where
  pub byte : ℕ
  pub behind : at ≤ byte
  pub within : byte < at + size
  pub fits : byte < 2 ^ 64
  pub is : top byte ≡ number
  pub some : 0 < number

-- behind a list stand the numbers that cover a byte of the range last, each at least once, and no others
pub record RangeLists (top : ℕ → ℕ) (at size : ℕ) (old new : List ℕ) : Type 0 where
  pub more : List ℕ
  pub is : new ≡ old ++ more
  pub each : (i : ℕ) → i < length more → IsTop top at size (slice_index more i)
  pub all : (x : ℕ) → at ≤ x → x < at + size → x < 2 ^ 64 → (top x ≡ 0) ⊎ ((i : ℕ) × (i < length more) × (slice_index more i ≡ top x))

-- a list, and what was added behind it
abbrev pub RangeGoesOn : (old new : List ℕ) → Type 0
RangeGoesOn old new = (more : List ℕ) × (new ≡ old ++ more)
