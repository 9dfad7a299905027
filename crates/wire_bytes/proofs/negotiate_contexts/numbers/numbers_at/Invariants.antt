use Rattle.std.proofs.Common.{◌≡◌, ◌+◌, ◌*◌, ◌≤◌, ◌++◌, length}
use Rattle.spec_wire.specs.messages.Offer.{ids_at}
use Rattle.wire_bytes.proofs.negotiate_contexts.numbers.numbers_at.Given as goal

abbrev pub invariant-loop-left : goal.invariant-loop-left
invariant-loop-left l = (l.numbers ++ ids_at l.bytes l.at l.left ≡ ids_at l.bytes l.from l.count) × (l.at + 2 * l.left ≤ length l.bytes)

abbrev pub decreases-loop-left : goal.decreases-loop-left
decreases-loop-left l = l.left
