use Rattle.std.proofs.Common.{◌≡◌, ◌+◌, ◌-◌, ◌≤◌, ℕ, List, length}
use Rattle.run_command.specs.Listing.{AreNumbersOf, receipt_orders}
use Rattle.run_command.proofs.listing.orders_of.Given as goal

abbrev pub invariant-loop-place : goal.invariant-loop-place
invariant-loop-place l = record {
  within : l.place ≤ length l.ops;
  told : (order : List ℕ) → AreNumbersOf l.ops order (length l.ops + 1) l.lists
      → l.orders.items ≡ receipt_orders l.ops l.settled order l.place;
}

abbrev pub decreases-loop-place : goal.decreases-loop-place
decreases-loop-place l = length l.ops - l.place
