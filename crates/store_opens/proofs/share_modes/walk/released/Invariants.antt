use Rattle.std.proofs.Common.{◌≡◌, drop}
use Rattle.store_opens.specs.share_modes.Locking.{released}
use Rattle.store_opens.proofs.share_modes.walk.released.Given as goal

abbrev pub invariant-loop-range : goal.invariant-loop-range
invariant-loop-range l = released l.fn.all.items l.wanted ≡ released l.all.items (drop l.range-index l.wanted)
