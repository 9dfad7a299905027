use Rattle.std.proofs.Common.{◌≡◌, ◌+◌, ◌-◌, ◌≤◌, ℕ, List, length}
use Rattle.run_command.specs.Listing.{AreNumbersOf}
use Rattle.run_command.specs.MadeFiles.{made_files}
use Rattle.run_command.proofs.made_files.made_of.Given as goal

abbrev pub invariant-loop-place : goal.invariant-loop-place
invariant-loop-place l = record {
  within : l.place ≤ length l.ops;
  told : (order : List ℕ) → AreNumbersOf l.ops order (length l.ops + 1) l.lists
      → l.files.items ≡ made_files l.ops l.settled order l.place;
}

abbrev pub decreases-loop-place : goal.decreases-loop-place
decreases-loop-place l = length l.ops - l.place
