use Rattle.std.proofs.Common.{◌≡◌, drop}
use Rattle.store_opens.specs.share_modes.Locking.{first_conflict}
use Rattle.wait_locks.proofs.held.first_conflict.Given as goal

abbrev pub invariant-loop-range : goal.invariant-loop-range
invariant-loop-range l = first_conflict l.standing l.wanted ≡ first_conflict (drop l.range-index l.standing) l.wanted
