use Rattle.std.proofs.Common.{◌-◌, ◌≤◌, length}
use Rattle.spec_wire.specs.messages.Compound.{AreJoined}
use Rattle.wire_bytes.proofs.headers.compound.split_compound.Given as goal

abbrev pub invariant-loop-end : goal.invariant-loop-end
invariant-loop-end l = AreJoined l.frame 0 l.parts l.at × (l.at ≤ length l.frame)

abbrev pub decreases-loop-end : goal.decreases-loop-end
decreases-loop-end l = length l.frame - l.at
