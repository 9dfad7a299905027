use Rattle.std.proofs.Common.{◌≡◌, drop, false}
use Rattle.std.specs.Prelude.{IfSome}
use Rattle.store_opens.specs.share_modes.Locking.{leaves_too_many, has_too_many}
use Rattle.store_opens.proofs.share_modes.owners.leaves_too_many.Given as goal

abbrev pub invariant-loop-range : goal.invariant-loop-range
invariant-loop-range l =
    (leaves_too_many l.standing l.wanted l.wanted ≡ leaves_too_many l.standing l.wanted (drop l.range-index l.wanted))
    × IfSome l.counted (λ o. has_too_many l.standing l.wanted o ≡ false)
