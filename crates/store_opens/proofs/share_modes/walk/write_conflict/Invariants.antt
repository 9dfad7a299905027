use Rattle.std.proofs.Common.{◌≡◌, drop}
use Rattle.store_opens.specs.share_modes.Locking.{write_conflict}
use Rattle.store_opens.proofs.share_modes.walk.write_conflict.Given as goal

abbrev pub invariant-loop-range : goal.invariant-loop-range
invariant-loop-range l = write_conflict l.ranges l.owner l.at l.length ≡ write_conflict (drop l.range-index l.ranges) l.owner l.at l.length
