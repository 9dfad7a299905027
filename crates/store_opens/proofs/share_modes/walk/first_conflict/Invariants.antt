use Rattle.std.proofs.Common.{◌≡◌, drop}
use Rattle.store_opens.specs.share_modes.Locking.{first_conflict}
use Rattle.store_opens.proofs.share_modes.walk.first_conflict.Given as goal

abbrev pub invariant-loop-range : goal.invariant-loop-range
invariant-loop-range l = first_conflict l.ranges l.wanted ≡ first_conflict (drop l.range-index l.ranges) l.wanted
