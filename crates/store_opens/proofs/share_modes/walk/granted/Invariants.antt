use Rattle.std.proofs.Common.{◌≡◌, drop}
use Rattle.store_opens.specs.share_modes.Locking.{locking_granted}
use Rattle.store_opens.proofs.share_modes.walk.granted.Given as goal

abbrev pub invariant-loop-range : goal.invariant-loop-range
invariant-loop-range l = locking_granted l.fn.all.items l.wanted ≡ locking_granted l.all.items (drop l.range-index l.wanted)
