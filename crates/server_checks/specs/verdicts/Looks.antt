-- What single rules look at.
use Rattle.std.specs.Prelude.{ℕ, Option, Some, None}
use Rattle.spec_exchange.specs.Commands as asks
use Rattle.spec_exchange.specs.Commands.{Element, is_exclusive}
use Rattle.spec_exchange.specs.Status.{file_lock_conflict, insufficient_resources, invalid_lock_range, lock_not_granted}
use Rattle.spec_exchange.specs.Status.{range_not_locked}
use Rattle.store_opens.specs.declared.share_modes.lists.Range.{Range}
use Rattle.store_opens.specs.declared.share_modes.ranges.RangeError.{RangeError}
use Rattle.store_opens.specs.declared.share_modes.ranges.RangeError.TheVariants.{Memory, NotGranted, NotLocked, Conflict, BadRange, TooMany}

-- the open that a command names
abbrev pub file_in : asks.Command → Option ℕ
file_in (asks.Close file query) = Some file
file_in (asks.Flush file) = Some file
file_in (asks.Read file at size minimum channel) = Some file
file_in (asks.Write file at bytes channel) = Some file
file_in (asks.Lock file index number elements) = Some file
file_in (asks.Ioctl file code room) = Some file
file_in (asks.ListDirectory file class restart single pattern room) = Some file
file_in (asks.QueryFile file class room) = Some file
file_in (asks.QueryVolume file class room) = Some file
file_in (asks.SetInfo file setting) = Some file
file_in _ = None

-- the range of an open that an element of a LOCK names
abbrev pub element_range : ℕ → Element → Range
element_range o e = record { owner = o; at = e.at; length = e.length; exclusive = is_exclusive e.flags }

-- the status of a refused lock or unlock; none where memory ran out
abbrev pub told_by : RangeError → Option ℕ
told_by Memory = None
told_by (NotGranted r) = Some lock_not_granted
told_by (NotLocked r) = Some range_not_locked
told_by (Conflict r) = Some file_lock_conflict
told_by (BadRange r) = Some invalid_lock_range
told_by TooMany = Some insufficient_resources
