use Rattle.std.proofs.Common.{◌≤◌, ◌-◌}
use Rattle.world_ends.specs.results.Listing.{AreBare}
use Rattle.world_ends.proofs.results.ordering.bare.Given as goal

abbrev pub invariant-loop-at : goal.invariant-loop-at
invariant-loop-at l = record { bare : AreBare l.at l.orders.items; within : l.at ≤ l.count }

abbrev pub decreases-loop-at : goal.decreases-loop-at
decreases-loop-at l = l.count - l.at
