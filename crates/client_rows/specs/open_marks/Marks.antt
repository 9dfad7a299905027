-- What an open keeps of its operations, so that a new one finds what it waits for. Columns are of the first n numbers.
use Rattle.std.specs.Prelude.{◌≡◌, ℕ, ◌+◌, ◌<◌, ◌≤◌, ◌^◌, ◌==◌, ◌&&◌, not, Bool, true, false, List, length, slice_index, ◌⊎◌}
use Rattle.client_values.specs.declared.operations.shapes.Kind.{Kind}
use Rattle.client_values.specs.declared.operations.shapes.Kind.TheVariants as kinds
use Rattle.client_values.specs.operations.Waiting.{is_close_kind, shape_holds}
use Rattle.client_rows.specs.operation_rows.Holding.{is_holding_changing}
use Rattle.base_lists.specs.range_index.Tops.{IsTop}
use Rattle.client_rows.specs.declared.open_marks.marks.Marks.{Marks}

-- ---- kinds

abbrev pub is_create_kind : Kind → Bool
is_create_kind kinds.Create = true
is_create_kind _ = false

abbrev pub is_mark_write : Kind → Bool
is_mark_write kinds.Write = true
is_mark_write _ = false

abbrev pub is_mark_end : Kind → Bool
is_mark_end kinds.End = true
is_mark_end _ = false

-- an end, a time, a rename or a removal
abbrev pub is_barrier : Kind → Bool
is_barrier kinds.End = true
is_barrier kinds.Change = true
is_barrier _ = false

-- a lock or an unlock
abbrev pub is_lock_kind : Kind → Bool
is_lock_kind kinds.Lock = true
is_lock_kind _ = false

-- a write of a byte or more
abbrev pub fills_by_shape : (ℕ → Kind) → (ℕ → ℕ) → ℕ → Bool
fills_by_shape k size h = is_mark_write (k h) && not (size h == 0)

-- the second waits for the first, on one open
abbrev pub holds_by_shape : (ℕ → Kind) → (at size : ℕ → ℕ) → ℕ → ℕ → Bool
holds_by_shape k at size h g = shape_holds (k h) (at h) (size h) (k g) (at g) (size g)

-- ---- marks

-- the highest such one of an open, or 0
pub record IsHighest (o : ℕ → ℕ) (such : ℕ → Bool) (create n m : ℕ) : Type 0 where
  pub below : 0 < m → m < n
  pub own : 0 < m → o m ≡ create
  pub is : 0 < m → such m ≡ true
  pub none : (h : ℕ) → m < h → h < n → o h ≡ create → such h ≡ false

-- it has the byte
pub record Has (at size : ℕ → ℕ) (h x : ℕ) : Type 0 where
  pub behind : at h ≤ x
  pub within : x < at h + size h

-- of each byte, the last such one of an open that has it; an unsettled one above clear is that one, or a later one has the byte
pub record IsMarkIndexed (o : ℕ → ℕ) (such : ℕ → Bool) (at size : ℕ → ℕ) (u : ℕ → Bool) (create n clear : ℕ) (top : ℕ → ℕ) : Type 0 where
  pub below : (x : ℕ) → x < 2 ^ 64 → 0 < top x → top x < n
  pub own : (x : ℕ) → x < 2 ^ 64 → 0 < top x → o (top x) ≡ create
  pub is : (x : ℕ) → x < 2 ^ 64 → 0 < top x → such (top x) ≡ true
  pub has : (x : ℕ) → x < 2 ^ 64 → 0 < top x → Has at size (top x) x
  pub kept : (h x : ℕ) → x < 2 ^ 64 → clear < h → h < n → o h ≡ create → such h ≡ true → u h ≡ true → Has at size h x
      → (top x ≡ h) ⊎ (h < top x)

-- ---- marks of an open

pub record Heights (o : ℕ → ℕ) (k : ℕ → Kind) (size : ℕ → ℕ) (create n : ℕ) (m : Marks) : Type 0 where
  pub lasts : IsHighest o (λ h. true) create n m.last
  pub changes : IsHighest o (λ h. is_holding_changing (k h)) create n m.change
  pub fills : IsHighest o (λ h. fills_by_shape k size h) create n m.filled
  pub closes : IsHighest o (λ h. is_close_kind (k h)) create n m.close
  pub ends : IsHighest o (λ h. is_mark_end (k h)) create n m.end
  pub barriers : IsHighest o (λ h. is_barrier (k h)) create n m.barrier

-- they are below a number
pub record AreMarksBelow (m : Marks) (n : ℕ) : Type 0 where
  pub last : m.last < n
  pub change : m.change < n
  pub filled : m.filled < n
  pub close : m.close < n
  pub end : m.end < n
  pub barrier : m.barrier < n

-- the mark, beside the last close, at which a new one of this kind looks
abbrev pub mark_of : Kind → Marks → ℕ
mark_of kinds.Create m = 0
mark_of kinds.Write m = m.barrier
mark_of kinds.Read m = m.end
mark_of kinds.End m = 0
mark_of kinds.Change m = 0
mark_of kinds.Lock m = 0
mark_of kinds.Look m = m.end
mark_of kinds.List m = 0
mark_of kinds.Close m = 0

-- and the table of bytes
abbrev pub top_of : Kind → (written locked : ℕ → ℕ) → ℕ → ℕ
top_of kinds.Create written locked x = 0
top_of kinds.Write written locked x = written x
top_of kinds.Read written locked x = written x
top_of kinds.End written locked x = 0
top_of kinds.Change written locked x = 0
top_of kinds.Lock written locked x = locked x
top_of kinds.Look written locked x = 0
top_of kinds.List written locked x = 0
top_of kinds.Close written locked x = 0

-- ---- what is listed

-- a number stands in a stretch of a list
pub record IsIn (holders : List ℕ) (begin end l : ℕ) : Type 0 where
  pub at : ℕ
  pub behind : begin ≤ at
  pub within : at < end
  pub is : slice_index holders at ≡ l

-- where there is such a mark, it is settled or listed
abbrev pub MarkTold : (ℕ → Bool) → List ℕ → (begin end l : ℕ) → Type 0
MarkTold u holders begin end l = 0 < l → (u l ≡ false) ⊎ IsIn holders begin end l

-- each number that has a byte of the range last is listed
abbrev pub AllTold : (ℕ → ℕ) → List ℕ → (begin end at size : ℕ) → Type 0
AllTold top holders begin end at size = (x : ℕ) → x < 2 ^ 64 → at ≤ x → x < at + size → 0 < top x → IsIn holders begin end (top x)

-- a list goes on with such numbers
pub record MarkAdds (such : ℕ → Type 0) (old new : List ℕ) : Type 0 where
  pub longer : length old ≤ length new
  pub front : (i : ℕ) → i < length old → slice_index new i ≡ slice_index old i
  pub behind : (i : ℕ) → length old ≤ i → i < length new → such (slice_index new i)

-- what is listed of an open for a new one
pub record ListsHolders (u : ℕ → Bool) (close mark : ℕ) (top : ℕ → ℕ) (at size : ℕ) (old new : List ℕ) : Type 0 where
  pub adds : MarkAdds (λ l. (0 < l) × ((l ≡ close) ⊎ ((l ≡ mark) ⊎ IsTop top at size l))) old new
  pub close_told : MarkTold u new (length old) (length new) close
  pub mark_told : MarkTold u new (length old) (length new) mark
  pub tops_told : AllTold top new (length old) (length new) at size
