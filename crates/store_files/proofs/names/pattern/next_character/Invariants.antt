use Rattle.std.proofs.Common.{◌≡◌, ◌-◌, ◌≤◌, ℕ, List, Bool, length, drop}
use Rattle.spec_exchange.specs.Listing.{after_character}
use Rattle.store_files.proofs.names.pattern.next_character.Given as goal

abbrev pub invariant-loop-at : goal.invariant-loop-at
invariant-loop-at l = record {
  order : l.fn.from ≤ l.at;
  in_range : l.at ≤ length l.name;
  same : (f : List ℕ → Bool) → after_character f (drop l.fn.from l.name) ≡ after_character f (drop l.at l.name);
}

abbrev pub decreases-loop-at : goal.decreases-loop-at
decreases-loop-at l = length l.name - l.at
