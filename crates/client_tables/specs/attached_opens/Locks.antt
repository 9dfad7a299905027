-- How many locks came on an open.
use Rattle.std.specs.Prelude.{ℕ, zero, suc, ◌+◌, ◌==◌, ◌&&◌, nat_lt, Bool, if◌then◌else◌, List, length}
use Rattle.client_rows.specs.declared.operation_rows.row.Row.{Row}
use Rattle.client_rows.specs.operation_rows.Rows.{row_at, kind}
use Rattle.client_rows.specs.open_marks.Marks.{is_lock_kind}

-- how many of the numbers below n pass a test
unfoldable pub passing_below : (ℕ → Bool) → ℕ → ℕ
passing_below test zero = 0
passing_below test (suc n) = if test n then passing_below test n + 1 else passing_below test n

-- it is a lock or an unlock on the open at that place
abbrev pub is_lock_on : List Row → ℕ → ℕ → Bool
is_lock_on rows at g = nat_lt 0 g && (is_lock_kind (kind rows g) && ((row_at rows g).«open» == at))

abbrev pub locks_on : List Row → ℕ → ℕ
locks_on rows at = passing_below (is_lock_on rows at) (length rows)
