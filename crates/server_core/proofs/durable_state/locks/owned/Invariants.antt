use Rattle.std.proofs.Common.{◌≡◌, ◌+◌, ◌≤◌, drop}
use Rattle.store_opens.specs.share_modes.Locking.{locking_count_owned}
use Rattle.server_core.proofs.durable_state.locks.owned.Given as goal

abbrev pub invariant-loop-one : goal.invariant-loop-one
invariant-loop-one l = (locking_count_owned l.id l.ranges ≡ l.count + locking_count_owned l.id
    (drop l.one-index l.ranges)) × l.count ≤ l.one-index
