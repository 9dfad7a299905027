-- What an operation was found to wait for, as a stretch of one list for all.
use Rattle.std.specs.Prelude.{◌≡◌, ℕ, ◌<◌, ◌≤◌, List, length, slice_index}
use Rattle.client_rows.specs.declared.operation_rows.row.Row.{Row}
use Rattle.client_rows.specs.operation_rows.Rows.{row_at}

-- its stretch lies in the list, and names numbers that have rows; 0 is none
pub record IsListed (rows : List Row) (holders : List ℕ) (g : ℕ) : Type 0 where
  pub begins : (row_at rows g).holders ≤ (row_at rows g).holders_end
  pub ends : (row_at rows g).holders_end ≤ length holders
  pub each : (i : ℕ) → (row_at rows g).holders ≤ i → i < (row_at rows g).holders_end → slice_index holders i < length rows
  pub some : (i : ℕ) → (row_at rows g).holders ≤ i → i < (row_at rows g).holders_end → 0 < slice_index holders i

-- rows that differ by the end of one stretch alone
pub record SameButEnd (old new : List Row) (index : ℕ) : Type 0 where
  pub count : length new ≡ length old
  pub other : (g : ℕ) → (g ≡ index → ⊥) → row_at new g ≡ row_at old g
  pub row : row_at new index ≡ record (row_at old index) { holders_end = (row_at new index).holders_end }
