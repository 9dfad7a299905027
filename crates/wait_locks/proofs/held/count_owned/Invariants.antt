use Rattle.std.proofs.Common.{◌≡◌, ◌+◌, ◌≤◌, drop}
use Rattle.store_opens.specs.share_modes.Locking.{locking_count_owned}
use Rattle.wait_locks.proofs.held.count_owned.Given as goal

abbrev pub invariant-loop-range : goal.invariant-loop-range
invariant-loop-range l = (locking_count_owned l.owner l.standing ≡ l.count + locking_count_owned l.owner (drop l.range-index l.standing))
    × l.count ≤ l.range-index
