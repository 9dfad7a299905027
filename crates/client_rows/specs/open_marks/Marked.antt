-- A row behind the others whose links and list come from what its open keeps.
use Rattle.std.specs.Prelude.{◌≡◌, ℕ, ◌<◌, ◌≤◌, ◌^◌, max, true, false, List, length}
use Rattle.client_values.specs.declared.operations.shapes.Kind.TheVariants as kinds
use Rattle.client_rows.specs.declared.operation_rows.row.Row.{Row}
use Rattle.client_rows.specs.declared.operation_rows.chains.Chain.TheVariants as chains
use Rattle.client_rows.specs.operation_rows.Rows.{stands, owner, kind, begins, ends, links}
use Rattle.client_rows.specs.declared.open_marks.marks.Marks.{Marks}
use Rattle.client_rows.specs.open_marks.Marks.{Heights, IsMarkIndexed, ListsHolders, holds_by_shape, is_lock_kind}
use Rattle.client_rows.specs.open_marks.Marks.{is_mark_write, mark_of, top_of}

-- what a row behind the others has to do with the marks of its open
pub record IsMarked (rows : List Row) (at size : ℕ → ℕ) (create n : ℕ) (m : Marks) (written locked : ℕ → ℕ)
    (old holders : List ℕ) : Type 0 where
  pub some : 0 < create
  pub below : create ≤ n
  pub own : owner rows n ≡ create
  pub itself : owner rows create ≡ create
  -- where it settles at once, it waits for nothing
  pub waits : stands rows n ≡ false → (h : ℕ) → h < n → owner rows h ≡ owner rows n → holds_by_shape (kind rows) at size h n ≡ true
      → stands rows h ≡ false
  pub lower : links chains.All rows n ≡ m.last
  pub change : links chains.Changes rows n ≡ m.change
  pub filled : links chains.Filled rows n ≡ m.filled
  pub begins_at : begins rows n ≡ length old
  pub ends_at : ends rows n ≡ length holders
  pub heights : Heights (owner rows) (kind rows) size create n m
  pub fits : (g : ℕ) → 0 < g → g ≤ n → at g < 2 ^ 64
  pub first : (g f : ℕ) → 0 < g → g < n → stands rows g ≡ false → f < g → owner rows f ≡ owner rows g
      → holds_by_shape (kind rows) at size f g ≡ true → stands rows f ≡ false
  pub creates : (h : ℕ) → h < n → kind rows h ≡ kinds.Create → owner rows h ≡ h
  pub writes : IsMarkIndexed (owner rows) (λ g. is_mark_write (kind rows g)) at size (stands rows) create n (max m.end m.close) written
  pub locks : IsMarkIndexed (owner rows) (λ g. is_lock_kind (kind rows g)) at size (stands rows) create n m.close locked
  pub listed : ListsHolders (stands rows) m.close (mark_of (kind rows n) m) (λ x. top_of (kind rows n) written locked x) (at n) (size n)
      old holders
