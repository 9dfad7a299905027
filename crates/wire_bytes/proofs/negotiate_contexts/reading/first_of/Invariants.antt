use Rattle.std.proofs.Common.{◌≡◌, true}
use Rattle.spec_wire.specs.messages.Contexts.{contexts_in}
use Rattle.spec_wire.specs.messages.Offer.{all_fit, first_of}
use Rattle.wire_bytes.proofs.negotiate_contexts.Walk.{Walks}
use Rattle.wire_bytes.proofs.negotiate_contexts.reading.first_of.Given as goal

abbrev pub invariant-loop-left : goal.invariant-loop-left
invariant-loop-left l =
    Walks l.bytes l.count l.end l.left × (first_of l.kind (contexts_in l.bytes l.end l.left)
    ≡ first_of l.kind (contexts_in l.bytes 0 l.count))
    × (all_fit (contexts_in l.bytes l.end l.left) ≡ true)

abbrev pub decreases-loop-left : goal.decreases-loop-left
decreases-loop-left l = l.left
