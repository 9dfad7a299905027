use Rattle.std.proofs.Common.{◌≡◌, ◌≤◌, length}
use Rattle.spec_wire.specs.messages.Contexts.{contexts_end}
use Rattle.wire_bytes.proofs.headers.contexts.end_of.Given as goal

abbrev pub invariant-loop-left : goal.invariant-loop-left
invariant-loop-left l = (contexts_end l.m l.end l.left ≡ contexts_end l.m l.at l.count) × (l.end ≤ length l.m)

abbrev pub decreases-loop-left : goal.decreases-loop-left
decreases-loop-left l = l.left
