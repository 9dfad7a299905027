use Rattle.std.proofs.Common.{◌+◌, length, take}
use Rattle.run_command.specs.Listing.{AreNumbersOf}
use Rattle.run_command.proofs.listing.lists_of.Given as goal

abbrev pub invariant-loop-place : goal.invariant-loop-place
invariant-loop-place l = AreNumbersOf l.ops (take l.place l.order) (length l.ops + 1) l.lists.items
