use Rattle.std.proofs.Common.{◌≡◌, ◌+◌, ◌-◌, ◌≤◌, length, drop, map}
use Rattle.client_values.specs.outcomes.Meaning.{outcome_of}
use Rattle.drill_command.specs.Summing.{count_of}
use Rattle.drill_command.proofs.summing.count_of.Given as goal

abbrev pub invariant-loop-place : goal.invariant-loop-place
invariant-loop-place l = record {
  few : l.count ≤ l.place;
  counted : l.count + count_of l.kind (map outcome_of (drop l.place l.settled)) ≡ count_of l.kind (map outcome_of l.settled);
}

abbrev pub decreases-loop-place : goal.decreases-loop-place
decreases-loop-place l = length l.settled - l.place
