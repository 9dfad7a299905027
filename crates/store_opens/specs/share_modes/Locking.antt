-- What the ranges of a file allow (MS-FSA 2.1.4.10, MS-SMB2 3.3.5.14), and which of them a refusal names.
use Rattle.std.specs.Prelude.{◌≡◌, ℕ, ◌+◌, ◌==◌, nat_lt, Bool, false, not, ◌&&◌, ◌||◌, if◌then◌else◌, List, [], ◌∷◌, ◌++◌, Option}
use Rattle.std.specs.Prelude.{Some, None, ⊤}
use Rattle.spec_exchange.specs.Content.{meets}
use Rattle.spec_exchange.specs.State as model
use Rattle.store_opens.specs.declared.share_modes.lists.Range.{Range}
use Rattle.store_opens.specs.declared.share_modes.ranges.RangeError.{RangeError}
use Rattle.store_opens.specs.declared.share_modes.ranges.RangeError.TheVariants.{Memory, NotGranted, NotLocked, Conflict, BadRange, TooMany}

-- the model's value of a range
abbrev pub range_of : Range → model.Range
range_of r = record { owner = r.owner; at = r.at; length = r.length; exclusive = r.exclusive }

abbrev pub locking_overlaps : Range → Range → Bool
locking_overlaps a b = meets a.at a.length b.at b.length

-- the first range that keeps another from standing: an overlap, one of the two exclusive
abbrev pub first_conflict : List Range → Range → Option Range
first_conflict [] w = None
first_conflict (r ∷ rs) w = if locking_overlaps r w && (r.exclusive || w.exclusive) then Some r else first_conflict rs w

-- it passes the last byte that a range may name
abbrev pub locking_wraps : Range → Bool
locking_wraps r = nat_lt 0x1_0000_0000_0000_0000 (r.at + r.length)

abbrev pub first_wrapping : List Range → Option Range
first_wrapping [] = None
first_wrapping (r ∷ rs) = if locking_wraps r then Some r else first_wrapping rs

abbrev pub locking_count_owned : ℕ → List Range → ℕ
locking_count_owned o [] = 0
locking_count_owned o (r ∷ rs) = (if r.owner == o then 1 else 0) + locking_count_owned o rs

-- an owner would have more than 1,024 ranges
abbrev pub has_too_many : List Range → List Range → ℕ → Bool
has_too_many rs ws o = nat_lt 1024 (locking_count_owned o rs + locking_count_owned o ws)

abbrev pub leaves_too_many : List Range → List Range → List Range → Bool
leaves_too_many rs all [] = false
leaves_too_many rs all (w ∷ ws) = has_too_many rs all w.owner || leaves_too_many rs all ws

-- what a call leaves, or why it is refused
pub data LockingOutcome : Type 0 where
  Stands : (ranges : List Range) → LockingOutcome
  Refused : (error : RangeError) → LockingOutcome

abbrev pub granted_or : Option Range → LockingOutcome → LockingOutcome
granted_or None rest = rest
granted_or (Some r) rest = Refused (NotGranted r)

-- each wanted range stands, one after the other, or none does
abbrev pub locking_granted : List Range → List Range → LockingOutcome
locking_granted rs [] = Stands rs
locking_granted rs (w ∷ ws) = granted_or (first_conflict rs w) (locking_granted (rs ++ w ∷ []) ws)

abbrev pub is_equal : Range → Range → Bool
is_equal r w = (r.owner == w.owner) && ((r.at == w.at) && (r.length == w.length))

abbrev pub with_first : Range → Option (List Range) → Option (List Range)
with_first r None = None
with_first r (Some rs) = Some (r ∷ rs)

-- the list without its first range of these bytes of the same open
abbrev pub without_first : List Range → Range → Option (List Range)
without_first [] w = None
without_first (r ∷ rs) w = if is_equal r w then Some rs else with_first r (without_first rs w)

abbrev pub released_or : Range → Option (List Range) → (List Range → LockingOutcome) → LockingOutcome
released_or w None rest = Refused (NotLocked w)
released_or w (Some left) rest = rest left

-- each wanted range is given up, one after the other, or none is
abbrev pub released : List Range → List Range → LockingOutcome
released rs [] = Stands rs
released rs (w ∷ ws) = released_or w (without_first rs w) (λ left. released left ws)

abbrev pub unless_wrapping : Option Range → LockingOutcome → LockingOutcome
unless_wrapping None rest = rest
unless_wrapping (Some r) rest = Refused (BadRange r)

abbrev pub lock_outcome : List Range → List Range → LockingOutcome
lock_outcome rs ws = if leaves_too_many rs ws ws then Refused TooMany else unless_wrapping (first_wrapping ws) (locking_granted rs ws)

abbrev pub unlock_outcome : List Range → List Range → LockingOutcome
unlock_outcome rs ws = unless_wrapping (first_wrapping ws) (released rs ws)

-- the call is refused for this outcome, or found no memory
abbrev pub RefusedBy : RangeError → LockingOutcome → Type 0
RefusedBy Memory o = ⊤
RefusedBy e o = o ≡ Refused e

-- the first range that keeps a read out: another open's exclusive one
abbrev pub read_conflict : List Range → ℕ → ℕ → ℕ → Option Range
read_conflict [] o at n = None
read_conflict (r ∷ rs) o at n = if meets r.at r.length at n && (r.exclusive && not (r.owner == o)) then Some r else read_conflict rs o at n

-- and a write: another open's, or a shared one of its own
abbrev pub write_conflict : List Range → ℕ → ℕ → ℕ → Option Range
write_conflict [] o at n = None
write_conflict (r ∷ rs) o at n = if meets r.at r.length at n && (not (r.owner == o) || not r.exclusive)
    then Some r else write_conflict rs o at n

-- the refusal names this range
abbrev pub IsConflict : RangeError → Option Range → Type 0
IsConflict (Conflict r) o = o ≡ Some r
IsConflict e o = ⊥
