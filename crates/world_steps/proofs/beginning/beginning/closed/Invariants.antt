use Rattle.std.proofs.Common.{◌≤◌, ◌-◌}
use Rattle.world_steps.specs.beginning.Starting.{AreClosed}
use Rattle.world_steps.proofs.beginning.beginning.closed.Given as goal

abbrev pub invariant-loop-count : goal.invariant-loop-count
invariant-loop-count l = (l.count ≤ 256) × AreClosed l.count l.channels.items

abbrev pub decreases-loop-count : goal.decreases-loop-count
decreases-loop-count l = 256 - l.count
