-- Byte ranges that are locked (MS-FSA 2.1.4.10, MS-SMB2 3.3.5.14).
use Rattle.std.specs.Prelude.{ℕ, ◌+◌, ◌==◌, nat_lt, Bool, true, false, not, ◌&&◌, ◌||◌, if◌then◌else◌, List, [], ◌∷◌}
use Rattle.std.specs.Prelude.{◌++◌, length, Option, Some, None}
use Rattle.spec_exchange.specs.Content.{meets}
use Rattle.spec_exchange.specs.Commands.{Element, is_exclusive, all_lock}
use Rattle.spec_exchange.specs.State.{Range}
use Rattle.spec_exchange.specs.Status.{insufficient_resources, invalid_lock_range, lock_not_granted, range_not_locked}

-- the limit of ranges of one open
abbrev pub max_ranges : ℕ
max_ranges = 1024

-- the ranges of one open that a list of elements names
abbrev pub ranges_of : ℕ → List Element → List Range
ranges_of o [] = []
ranges_of o (e ∷ es) = record { owner = o; at = e.at; length = e.length; exclusive = is_exclusive e.flags } ∷ ranges_of o es

-- two ranges have a byte in common; one of no bytes overlaps nothing
unfoldable pub overlaps : Range → Range → Bool
overlaps a b = meets a.at a.length b.at b.length

-- it can't stand beside a list of ranges: an overlap, one of the two exclusive
unfoldable pub is_denied : List Range → Range → Bool
is_denied [] wanted = false
is_denied (r ∷ rs) wanted = (overlaps r wanted && (r.exclusive || wanted.exclusive)) || is_denied rs wanted

-- it passes the last byte that a range may name
abbrev pub wraps : Range → Bool
wraps r = nat_lt 0x1_0000_0000_0000_0000 (r.at + r.length)

unfoldable pub any_wraps : List Range → Bool
any_wraps [] = false
any_wraps (r ∷ rs) = wraps r || any_wraps rs

unfoldable pub count_owned : ℕ → List Range → ℕ
count_owned o [] = 0
count_owned o (r ∷ rs) = (if r.owner == o then 1 else 0) + count_owned o rs

-- each wanted range stands, one after the other, or none does
unfoldable pub add_ranges : List Range → List Range → Option (List Range)
add_ranges rs [] = Some rs
add_ranges rs (w ∷ ws) = if is_denied rs w then None else add_ranges (rs ++ w ∷ []) ws

-- the same bytes of the same open
abbrev pub is_equal_range : Range → Range → Bool
is_equal_range r w = (r.owner == w.owner) && ((r.at == w.at) && (r.length == w.length))

unfoldable pub prepended : Range → Option (List Range) → Option (List Range)
prepended r None = None
prepended r (Some rs) = Some (r ∷ rs)

-- the list without its first range of these bytes
unfoldable pub take_range : List Range → Range → Option (List Range)
take_range [] w = None
take_range (r ∷ rs) w = if is_equal_range r w then Some rs else prepended r (take_range rs w)

unfoldable pub take_ranges : Option (List Range) → List Range → Option (List Range)
take_ranges None ws = None
take_ranges (Some rs) [] = Some rs
take_ranges (Some rs) (w ∷ ws) = take_ranges (take_range rs w) ws

-- a LOCK request's answer on the ranges of a file
pub data RangeAnswer : Type 0 where
  Stands : (ranges : List Range) → RangeAnswer
  Denied : (status : ℕ) → RangeAnswer

unfoldable pub stands_or : ℕ → Option (List Range) → RangeAnswer
stands_or status None = Denied status
stands_or status (Some rs) = Stands rs

unfoldable pub lock_ranges : List Range → ℕ → List Range → RangeAnswer
lock_ranges rs o ws = if nat_lt max_ranges (count_owned o rs + length ws) then Denied insufficient_resources else
    if any_wraps ws then Denied invalid_lock_range else stands_or lock_not_granted (add_ranges rs ws)

unfoldable pub unlock_ranges : List Range → List Range → RangeAnswer
unlock_ranges rs ws = if any_wraps ws then Denied invalid_lock_range else stands_or range_not_locked (take_ranges (Some rs) ws)

unfoldable pub change_ranges : List Range → ℕ → List Element → RangeAnswer
change_ranges rs o es = if all_lock es then lock_ranges rs o (ranges_of o es) else unlock_ranges rs (ranges_of o es)

unfoldable pub without_owner : ℕ → List Range → List Range
without_owner o [] = []
without_owner o (r ∷ rs) = if r.owner == o then without_owner o rs else r ∷ without_owner o rs

-- a read meets no other open's exclusive range
unfoldable pub may_read : List Range → ℕ → ℕ → ℕ → Bool
may_read [] o at n = true
may_read (r ∷ rs) o at n = not (meets r.at r.length at n && (r.exclusive && not (r.owner == o))) && may_read rs o at n

-- a write meets no other open's range and no shared one of its own
unfoldable pub may_write : List Range → ℕ → ℕ → ℕ → Bool
may_write [] o at n = true
may_write (r ∷ rs) o at n = not (meets r.at r.length at n && (not (r.owner == o) || not r.exclusive)) && may_write rs o at n
