use Rattle.std.proofs.Common.{◌≤◌, ◌-◌, List, []}
use Rattle.client_values.specs.declared.operations.values.OpKind.{OpKind}
use Rattle.run_command.specs.Listing.{AreNumbersOf}
use Rattle.run_command.proofs.listing.bare.Given as goal

abbrev pub invariant-loop-at : goal.invariant-loop-at
invariant-loop-at l = record { bare : (ops : List OpKind) → AreNumbersOf ops [] l.at l.lists.items; within : l.at ≤ l.count }

abbrev pub decreases-loop-at : goal.decreases-loop-at
decreases-loop-at l = l.count - l.at
