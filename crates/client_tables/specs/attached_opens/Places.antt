-- Where each operation stands stays.
use Rattle.std.specs.Prelude.{◌≡◌, ℕ, false, List, length}
use Rattle.client_rows.specs.declared.operation_rows.row.Row.{Row}
use Rattle.client_rows.specs.operation_rows.Rows.{row_at, stands, owner, kind}

pub record KeepsPlaces (old new : List Row) : Type 0 where
  pub count : length new ≡ length old
  pub create : (g : ℕ) → owner new g ≡ owner old g
  pub opens : (g : ℕ) → (row_at new g).«open» ≡ (row_at old g).«open»
  pub kinds : (g : ℕ) → kind new g ≡ kind old g
  pub settled : (g : ℕ) → stands old g ≡ false → stands new g ≡ false
