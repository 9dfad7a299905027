use Rattle.std.proofs.Common.{◌≡◌, ◌-◌, ◌≤◌, ◌<◌, length, drop}
use Rattle.access_lists.specs.Index.{place_of, place_from}
use Rattle.access_lists.proofs.bearing.place_of.Given as goal

abbrev pub invariant-loop-i : goal.invariant-loop-i
invariant-loop-i l = (l.i ≤ length l.path) × (l.place < 64) × (place_of l.path ≡ place_from l.place (drop l.i l.path))

abbrev pub decreases-loop-i : goal.decreases-loop-i
decreases-loop-i l = length l.path - l.i
