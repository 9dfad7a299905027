use Rattle.std.proofs.Common.{◌≡◌, drop}
use Rattle.store_opens.specs.share_modes.Locking.{first_wrapping}
use Rattle.store_opens.proofs.share_modes.walk.first_wrapping.Given as goal

abbrev pub invariant-loop-range : goal.invariant-loop-range
invariant-loop-range l = first_wrapping l.ranges ≡ first_wrapping (drop l.range-index l.ranges)
