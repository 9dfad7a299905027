-- Prices and watchers beside the rows, and the lowest operation that nothing holds up and that is paid for.
use Rattle.std.specs.Prelude.{◌≡◌, ℕ, ◌<◌, ◌≤◌, ◌^◌, ◌==◌, ◌&&◌, not, Bool, true, false, if◌then◌else◌, List, length, slice_index, ◌⊎◌}
use Rattle.base_lists.specs.declared.watch_lists.Link.{Link as Watch}
use Rattle.base_lists.specs.watch_lists.Listed.{watches}
use Rattle.client_rows.specs.declared.operation_rows.row.Row.{Row}
use Rattle.client_rows.specs.operation_rows.Rows.{stands, owner, is_out}
use Rattle.client_rows.specs.operation_rows.Holding.{AreFirst, FitsRows, HoldingHolder}

-- what it costs, or what nothing pays
abbrev pub price_of : (unsettled out : Bool) (watched cost : ℕ) → ℕ
price_of unsettled out watched cost = if unsettled && (not out && (watched == 0)) then cost else 255

-- each row has its price and its watchers, and what has a price that is paid watches none; beyond the rows there are neither
pub record RowCounts (rows : List Row) (prices : List ℕ) (watchers : List Watch) : Type 0 where
  pub has_prices : length rows ≤ length prices
  pub has_watchers : length rows ≤ length watchers
  pub few : length watchers < 2 ^ 32
  pub apart : (g : ℕ) → g < length prices → slice_index prices g < 255 → (g < length rows) × (watches watchers g ≡ 0)
  pub inside : (g : ℕ) → 0 < watches watchers g → g < length rows

pub record RowStands (holds : ℕ → ℕ → Bool) (fills : ℕ → Bool) (cost : ℕ → ℕ) (rows : List Row) (holders prices : List ℕ)
    (watchers : List Watch) : Type 0 where
  pub fits : FitsRows holds fills rows holders
  pub first : AreFirst holds (owner rows) (stands rows)
  -- what one watches holds it up
  pub watched : (g : ℕ) → 0 < watches watchers g → HoldingHolder holds (owner rows) (stands rows) (watches watchers g) g
  pub priced : (g : ℕ) → g < length rows → slice_index prices g ≡ price_of (stands rows g) (is_out rows g) (watches watchers g) (cost g)

-- why one doesn't go: it is settled, or outstanding, or too dear, or another holds it up
abbrev pub RowStays : (ℕ → ℕ → Bool) → (ℕ → ℕ) → ℕ → List Row → ℕ → Type 0
RowStays holds cost credits rows g =
    (stands rows g ≡ false)
    ⊎ ((is_out rows g ≡ true)
    ⊎ ((credits < cost g) ⊎ ((b : ℕ) × (0 < b) × HoldingHolder holds (owner rows) (stands rows) b g)))

abbrev pub AllStay : (ℕ → ℕ → Bool) → (ℕ → ℕ) → ℕ → List Row → (from end : ℕ) → Type 0
AllStay holds cost credits rows from end = (g : ℕ) → from ≤ g → g < end → RowStays holds cost credits rows g

-- the lowest from one on that goes
pub record IsLeast (holds : ℕ → ℕ → Bool) (cost : ℕ → ℕ) (credits : ℕ) (rows : List Row) (from g : ℕ) : Type 0 where
  pub behind : from ≤ g
  pub lower : AllStay holds cost credits rows from g
  pub unsettled : stands rows g ≡ true
  pub apart : is_out rows g ≡ false
  pub paid : cost g ≤ credits
  pub free : (h : ℕ) → 0 < h → HoldingHolder holds (owner rows) (stands rows) h g → ⊥
