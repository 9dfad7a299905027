use Rattle.std.proofs.Common.{◌≡◌, ◌-◌, ◌≤◌, length}
use Rattle.spec_exchange.specs.Network.{World}
use Rattle.spec_exchange.specs.Runs.{account}
use Rattle.drill_command.specs.drill_text.Ordered.{IsToldBy}
use Rattle.drill_command.specs.drill_text.Text.{orders_to}
use Rattle.world_ends.specs.results.Listing.{AreOrders}
use Rattle.drill_command.proofs.drill_text.creates.orders_of.Given as goal

abbrev pub invariant-loop-place : goal.invariant-loop-place
invariant-loop-place l = record {
  within : l.place ≤ length l.ops;
  told : (w : World) → IsToldBy w l.ops l.settled → AreOrders w.client.taken (account w) l.told → l.orders.items ≡ orders_to w l.place;
}

abbrev pub decreases-loop-place : goal.decreases-loop-place
decreases-loop-place l = length l.ops - l.place
