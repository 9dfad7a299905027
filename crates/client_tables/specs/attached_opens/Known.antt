-- What is known of each open, tied to the columns of the model's client.
use Rattle.std.specs.Prelude.{◌≡◌, ℕ, ◌<◌, ◌≤◌, Bool, false, List, length, slice_index_or}
use Rattle.spec_exchange.specs.Operations.{Op, persists}
use Rattle.spec_exchange.specs.Client.{Client}
use Rattle.client_rows.specs.declared.operation_rows.row.Row.{Row}
use Rattle.client_rows.specs.operation_rows.Rows.{row_at, owner}
use Rattle.client_tables.specs.declared.attached_opens.opened.Opened.{Opened}

-- it stands at a place of a list
abbrev pub IsKnownAt : List Opened → ℕ → Opened → Type 0
IsKnownAt opened i o = o ≡ slice_index_or opened i o

-- by operation, of its open
pub record ShowsKnown (rows : List Row) (opened : List Opened) (op : ℕ → Op) (file : ℕ → ℕ) (closed sent : ℕ → Bool) (slot : ℕ → ℕ)
    : Type 0 where
  pub file_is : (g : ℕ) (o : Opened) → 0 < g → g < length rows → IsKnownAt opened (row_at rows g).«open» o → file (owner rows g) ≡ o.file
  pub closed_is : (g : ℕ) (o : Opened) → 0 < g → g < length rows → IsKnownAt opened (row_at rows g).«open» o
      → closed (owner rows g) ≡ o.shut
  pub persists_is : (g : ℕ) (o : Opened) → 0 < g → g < length rows → IsKnownAt opened (row_at rows g).«open» o
      → persists (op (owner rows g)) ≡ o.persist
  -- of a create that isn't taken nothing is known
  pub file_none : (x : ℕ) → length rows ≤ x → file x ≡ 0
  pub closed_none : (x : ℕ) → length rows ≤ x → closed x ≡ false
  -- what never went out has no slot
  pub unsent : (g : ℕ) → sent g ≡ false → slot g ≡ 0

abbrev pub ShowsOpened : List Row → List Opened → Client → Type 0
ShowsOpened rows opened c = ShowsKnown rows opened c.op c.file c.closed_ok c.sent c.slot_of
