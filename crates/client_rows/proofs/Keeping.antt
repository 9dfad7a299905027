-- One row changes, and where each stands stays.
use Rattle.std.proofs.Common.{◌≡◌, ℕ, ◌<◌, List, length, set, ap, sym}
use Rattle.client_rows.specs.declared.operation_rows.row.Row.{Row}
use Rattle.client_rows.specs.operation_rows.Rows.{row_at}
use Rattle.client_rows.specs.operation_rows.Moves.{KeepsPlace}
use Rattle.client_rows.proofs.operation_rows.Walking.{count_same, row_there}
use Rattle.client_rows.proofs.operation_rows.Changing.{col_kept}
use Rattle.client_rows.specs.Shown.{KeepsRow}

-- a column that the new row keeps stays
pub kept_at : {X : Type 0} (f : Row → X) (rows : List Row) (x : ℕ) (r : Row) → x < length rows → f r ≡ f (row_at rows x)
    → (g : ℕ) → f (row_at (set rows x r) g) ≡ f (row_at rows g)
kept_at f rows x r h e g = sym (λ t. (col_kept f rows x r h e t) g)

pub keeps_one : (rows : List Row) (x : ℕ) (r : Row) → x < length rows → KeepsPlace (row_at rows x) r
    → r.«open» ≡ (row_at rows x).«open» → r.firm ≡ (row_at rows x).firm → r.charge ≡ (row_at rows x).charge
    → KeepsRow rows (set rows x r) x
keeps_one rows x r h k o f g =
    record {
      count = count_same rows x r;
      create = kept_at (λ (w : Row). w.create) rows x r h k.create;
      opens = kept_at (λ (w : Row). w.«open») rows x r h o;
      kinds = kept_at (λ (w : Row). w.kind) rows x r h k.kind;
      unsettled = kept_at (λ (w : Row). w.unsettled) rows x r h k.unsettled;
      firms = kept_at (λ (w : Row). w.firm) rows x r h f;
      charges = kept_at (λ (w : Row). w.charge) rows x r h g;
      others = λ y e. ap (λ (w : Row). w.outstanding_on) (row_there rows x r y e);
    }
