-- What one operation more has to show of its links and its list. The columns are those of the rows with it; n is its number.
use Rattle.std.specs.Prelude.{◌≡◌, ℕ, ◌-◌, ◌<◌, ◌≤◌, Bool, true, false, List, length, slice_index, ◌⊎◌}
use Rattle.client_rows.specs.declared.operation_rows.row.Row.{Row}
use Rattle.client_rows.specs.declared.operation_rows.chains.Chain.TheVariants as chains
use Rattle.client_rows.specs.operation_rows.Rows.{stands, owner, kind, begins, ends, links}
use Rattle.client_rows.specs.operation_rows.Holding.{IsEntry, on_chain, on_changes, on_filled, holding_on_open}

-- its link leads to the highest of its chain that may be unsettled
pub record RowJoins (link : ℕ → ℕ) (on : ℕ → ℕ → Bool) (stands : ℕ → Bool) (n : ℕ) : Type 0 where
  pub lower : link n ≤ n - 1
  pub gap : (h : ℕ) → link n < h → h < n → on h n ≡ true → stands h ≡ false
  pub same : 0 < link n → (h : ℕ) → on h (link n) ≡ on h n
  pub is : 0 < link n → on (link n) n ≡ true

pub record IsRowNew (holds : ℕ → ℕ → Bool) (fills : ℕ → Bool) (rows : List Row) (holders : List ℕ) (n : ℕ) : Type 0 where
  pub owned : 0 < owner rows n
  pub within : owner rows n ≤ n
  pub own : owner rows (owner rows n) ≡ owner rows n
  -- its stretch of the list
  pub begun : begins rows n ≤ ends rows n
  pub ended : ends rows n ≤ length holders
  pub opens : RowJoins (links chains.All rows) (holding_on_open (owner rows)) (stands rows) n
  pub changing : RowJoins (links chains.Changes rows) (on_changes (owner rows) (kind rows)) (stands rows) n
  pub filling : RowJoins (links chains.Filled rows) (on_filled (owner rows) fills) (stands rows) n
  pub suits : (h : ℕ) → h < n → on_chain (kind rows n) (owner rows) (kind rows) fills h n ≡ true → (h ≡ owner rows n) ⊎ (holds h n ≡ true)
  pub entries : (i : ℕ) → begins rows n ≤ i → i < ends rows n
      → (slice_index holders i < n) × (owner rows (slice_index holders i) ≡ owner rows n) × (holds (slice_index holders i) n ≡ true)
  pub numbered : (i : ℕ) → begins rows n ≤ i → i < ends rows n → 0 < slice_index holders i
  pub covered : (h : ℕ) → 0 < h → h < n → owner rows h ≡ owner rows n → holds h n ≡ true
      → (stands rows h ≡ false)
      ⊎ (IsEntry holds (owner rows) holders (begins rows n) (ends rows n) h
      ⊎ (on_chain (kind rows n) (owner rows) (kind rows) fills h n ≡ true))
  -- where it settles at once, it waits for nothing
  pub first : stands rows n ≡ false → (h : ℕ) → h < n → owner rows h ≡ owner rows n → holds h n ≡ true → stands rows h ≡ false

-- prices that go on with what nothing pays
pub record Grew (old new : List ℕ) : Type 0 where
  pub more : length old ≤ length new
  pub kept : (g : ℕ) → g < length old → slice_index new g ≡ slice_index old g
  pub never : (g : ℕ) → length old ≤ g → g < length new → slice_index new g ≡ 255
