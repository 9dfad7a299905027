-- What each open keeps of its operations, beside the table.
use Rattle.std.specs.Prelude.{◌≡◌, ℕ, ◌<◌, true, List, [], ◌∷◌, ◌++◌, length, slice_index_or}
use Rattle.spec_exchange.specs.Operations.{Op}
use Rattle.client_rows.specs.declared.operation_rows.row.Row.{Row}
use Rattle.client_rows.specs.operation_rows.Rows.{row_at, owner}
use Rattle.client_rows.specs.open_marks.Marks.{AreMarksBelow, IsHighest}
use Rattle.base_lists.specs.range_index.Shown.{top}
use Rattle.client_tables.specs.declared.opens.opening.Open.{Open}
use Rattle.client_tables.specs.opens.Opened.{AreTopped}
use Rattle.client_steps.specs.submits_on_opens.Keeping.{SubmitKeeps}

-- it stands at a place of a list
abbrev pub IsMarkedAt : List Open → ℕ → Open → Type 0
IsMarkedAt marks i m = m ≡ slice_index_or marks i m

-- what an open has marked, and what its tables of bytes tell, are numbers below one
abbrev pub IsMarkBounded : Open → ℕ → Type 0
IsMarkBounded m n = AreMarksBelow m.marks n × AreTopped (top m.written) (top m.locked) n

-- each operation's open has its marks, and they are numbers of rows; one of them is the highest of the open's operations
pub record FitsMarks (rows : List Row) (marks : List Open) : Type 0 where
  pub opens : (g : ℕ) → 0 < g → g < length rows → (row_at rows g).«open» < length marks
  pub below : (g : ℕ) (m : Open) → 0 < g → g < length rows → IsMarkedAt marks (row_at rows g).«open» m → IsMarkBounded m (length rows)
  pub lasts : (g : ℕ) (m : Open) → 0 < g → g < length rows → IsMarkedAt marks (row_at rows g).«open» m
      → IsHighest (owner rows) (λ h. true) (owner rows g) (length rows) m.marks.last

abbrev pub ShowsMarks : List Row → List Open → (ℕ → Op) → Type 0
ShowsMarks rows marks op = (g : ℕ) (m : Open) → 0 < g → g < length rows → IsMarkedAt marks (row_at rows g).«open» m
    → SubmitKeeps rows (length rows) op (owner rows g) m

-- one row more, of an operation of this create
abbrev pub AddsOne : (old new : List Row) (create : ℕ) → Type 0
AddsOne old new create = (r : Row) × (new ≡ old ++ r ∷ []) × (r.create ≡ create)
