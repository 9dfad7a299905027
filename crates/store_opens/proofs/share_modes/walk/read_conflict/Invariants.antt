use Rattle.std.proofs.Common.{◌≡◌, drop}
use Rattle.store_opens.specs.share_modes.Locking.{read_conflict}
use Rattle.store_opens.proofs.share_modes.walk.read_conflict.Given as goal

abbrev pub invariant-loop-range : goal.invariant-loop-range
invariant-loop-range l = read_conflict l.ranges l.owner l.at l.length ≡ read_conflict (drop l.range-index l.ranges) l.owner l.at l.length
