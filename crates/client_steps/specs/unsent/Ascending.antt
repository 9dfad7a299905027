-- The operations of each open, upwards.
use Rattle.std.specs.Prelude.{◌≡◌, ℕ, ◌<◌, ◌≤◌, List, length, slice_index}
use Rattle.client_rows.specs.declared.operation_rows.row.Row.{Row}
use Rattle.client_rows.specs.operation_rows.Rows.{owner}

-- by operation, the next higher one of its open; 0 where there is none
pub record Ascends (rows : List Row) (later : List ℕ) : Type 0 where
  pub counted : length later ≡ length rows
  pub within : (g : ℕ) → 0 < g → g < length rows → slice_index later g < length rows
  pub higher : (g : ℕ) → 0 < g → g < length rows → 0 < slice_index later g → g < slice_index later g
  pub own : (g : ℕ) → 0 < g → g < length rows → 0 < slice_index later g → owner rows (slice_index later g) ≡ owner rows g
  -- none of the open is between
  pub next : (g h : ℕ) → 0 < g → g < h → h < length rows → owner rows h ≡ owner rows g → (0 < slice_index later g)
      × (slice_index later g ≤ h)
