-- The model's answer to a lock or unlock of these ranges.
use Rattle.std.specs.Prelude.{◌≡◌, ℕ, ⊤, List, [], ◌∷◌, map}
use Rattle.spec_exchange.specs.Ranges as model
use Rattle.spec_exchange.specs.Status.{insufficient_resources, invalid_lock_range, lock_not_granted, range_not_locked, no_memory}
use Rattle.spec_exchange.specs.Status.{file_lock_conflict}
use Rattle.store_opens.specs.declared.share_modes.lists.Range.{Range}
use Rattle.store_opens.specs.declared.share_modes.ranges.RangeError.{RangeError}
use Rattle.store_opens.specs.declared.share_modes.ranges.RangeError.TheVariants.{Memory, NotGranted, NotLocked, Conflict, BadRange, TooMany}
use Rattle.store_opens.specs.share_modes.Locking.{range_of, LockingOutcome, Stands, Refused}

-- each range is this owner's
abbrev pub AllOf : ℕ → List Range → Type 0
AllOf o [] = ⊤
AllOf o (r ∷ rs) = (r.owner ≡ o) × AllOf o rs

abbrev pub status_of : RangeError → ℕ
status_of Memory = no_memory
status_of (NotGranted r) = lock_not_granted
status_of (NotLocked r) = range_not_locked
status_of (Conflict r) = file_lock_conflict
status_of (BadRange r) = invalid_lock_range
status_of TooMany = insufficient_resources

abbrev pub answer_of : LockingOutcome → model.RangeAnswer
answer_of (Stands rs) = model.Stands (map range_of rs)
answer_of (Refused e) = model.Denied (status_of e)
