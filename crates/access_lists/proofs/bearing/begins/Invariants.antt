use Rattle.std.proofs.Common.{◌≡◌, ◌-◌, ◌≤◌, length, drop}
use Rattle.access_lists.specs.Walk.{begins_so}
use Rattle.access_lists.proofs.bearing.begins.Given as goal

abbrev pub invariant-loop-i : goal.invariant-loop-i
invariant-loop-i l = (l.i ≤ length l.front) × (begins_so l.front l.text ≡ begins_so (drop l.i l.front) (drop l.i l.text))

abbrev pub decreases-loop-i : goal.decreases-loop-i
decreases-loop-i l = length l.front - l.i
