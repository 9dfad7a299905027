-- What a client keeps of an open, tied to the rows of its operations.
use Rattle.std.specs.Prelude.{◌≡◌, ℕ, ◌<◌, ◌≤◌, ◌^◌, max, true, false, List}
use Rattle.spec_exchange.specs.Table.{put}
use Rattle.spec_exchange.specs.Operations.{Op, create_of, holds_up, is_unsettled}
use Rattle.spec_exchange.specs.Client.{Client, create_for, outcome_at_first}
use Rattle.client_values.specs.declared.operations.shapes.Shape.{Shape}
use Rattle.client_values.specs.operations.Waiting.{at_of, size_of}
use Rattle.client_values.specs.declared.operations.shapes.Kind.{Kind}
use Rattle.client_values.specs.declared.operations.shapes.Kind.TheVariants as kinds
use Rattle.client_rows.specs.declared.operation_rows.row.Row.{Row}
use Rattle.client_rows.specs.operation_rows.Rows.{stands, owner, kind}
use Rattle.base_lists.specs.range_index.Tops.{Covers}
use Rattle.client_rows.specs.declared.open_marks.marks.Marks.{Marks}
use Rattle.client_rows.specs.open_marks.Marks.{Heights, IsMarkIndexed, is_lock_kind, is_mark_write}
use Rattle.client_tables.specs.submits.Taken.{IsRowOf}

-- of the first n numbers; at and size by what operations ask
pub record ShowsOpen (rows : List Row) (at size : ℕ → ℕ) (create n : ℕ) (m : Marks) (written locked : ℕ → ℕ) : Type 0 where
  pub heights : Heights (owner rows) (kind rows) size create n m
  pub writes : IsMarkIndexed (owner rows) (λ g. is_mark_write (kind rows g)) at size (stands rows) create n (max m.end m.close) written
  pub locks : IsMarkIndexed (owner rows) (λ g. is_lock_kind (kind rows g)) at size (stands rows) create n m.close locked

-- the table of bytes that are written, and that of bytes that are locked, behind one more: an end and a close clear them
abbrev pub OpenStays : (old new : ℕ → ℕ) → Type 0
OpenStays old new = (x : ℕ) → new x ≡ old x

abbrev pub Clears : (new : ℕ → ℕ) → Type 0
Clears new = (x : ℕ) → new x ≡ 0

abbrev pub OpenBehind : Kind → (written written2 locked locked2 : ℕ → ℕ) (at size n : ℕ) → Type 0
OpenBehind kinds.Create w w2 l l2 at size n = OpenStays w w2 × OpenStays l l2
OpenBehind kinds.Write w w2 l l2 at size n = Covers w w2 at size n × OpenStays l l2
OpenBehind kinds.Read w w2 l l2 at size n = OpenStays w w2 × OpenStays l l2
OpenBehind kinds.End w w2 l l2 at size n = Clears w2 × OpenStays l l2
OpenBehind kinds.Change w w2 l l2 at size n = OpenStays w w2 × OpenStays l l2
OpenBehind kinds.Lock w w2 l l2 at size n = OpenStays w w2 × Covers l l2 at size n
OpenBehind kinds.Look w w2 l l2 at size n = OpenStays w w2 × OpenStays l l2
OpenBehind kinds.List w w2 l l2 at size n = OpenStays w w2 × OpenStays l l2
OpenBehind kinds.Close w w2 l l2 at size n = Clears w2 × Clears l2

-- the numbers that the tables of bytes tell are below one
abbrev pub AreTopped : (written locked : ℕ → ℕ) → ℕ → Type 0
AreTopped written locked n = (x : ℕ) → x < 2 ^ 64 → (written x < n) × (locked x < n)

-- a row with its part of the list, and with the links that its open's marks are
abbrev pub placed_row : Row → (begin end : ℕ) → Marks → Row
placed_row row begin end m = record row { holders = begin; holders_end = end; lower = m.last; change = m.change; filled = m.filled }

-- the row of an operation that goes onto an open, by what it asks
pub record IsOpenOn (rows : List Row) (c : Client) (op : Op) (create n : ℕ) (shape : Shape) (r : Row) : Type 0 where
  pub row : IsRowOf r c n op
  pub kind_is : shape.kind ≡ r.kind
  pub at_is : at_of op ≡ shape.at
  pub size_is : size_of op ≡ shape.size
  pub own : create_of n op ≡ create
  pub some : 0 < create
  pub below : create ≤ n
  pub itself : create < n → owner rows create ≡ create
  pub created : (g : ℕ) → 0 < g → g ≤ c.taken → 0 < create_for c g
  pub fits : (g : ℕ) → 0 < g → g ≤ n → at_of (put c.op n op g) < 2 ^ 64
  -- where it settles at once, what it would wait for is settled, as client_law tells of what is taken
  pub late : is_unsettled (outcome_at_first c n op) ≡ false → (h : ℕ) → 0 < h → h < n → create_for c h ≡ create_of n op
      → holds_up (c.op h) op ≡ true → is_unsettled (c.outcome h) ≡ false
