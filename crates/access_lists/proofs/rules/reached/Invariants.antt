use Rattle.std.proofs.Common.{◌≡◌, ◌-◌, ◌≤◌, ◌++◌, length, drop}
use Rattle.access_lists.specs.Index.{reached}
use Rattle.access_lists.proofs.rules.reached.Given as goal

abbrev pub invariant-loop-i : goal.invariant-loop-i
invariant-loop-i l =
    (l.i ≤ length l.rules) × (l.numbers ++ reached l.place l.i (drop l.i l.rules) ≡ reached l.place 0 l.rules)

abbrev pub decreases-loop-i : goal.decreases-loop-i
decreases-loop-i l = length l.rules - l.i
