use Rattle.std.proofs.Common.{◌≡◌, ℕ, List, []}
use Rattle.spec_wire.specs.messages.Contexts.{contexts_in}
use Rattle.spec_wire.specs.messages.Offer.{doubled}
use Rattle.wire_bytes.specs.negotiate_contexts.Views.{Saw}
use Rattle.wire_bytes.proofs.negotiate_contexts.Walk.{Walks}
use Rattle.wire_bytes.proofs.negotiate_contexts.reading.doubled.Given as goal

abbrev pub invariant-loop-left : goal.invariant-loop-left
invariant-loop-left l =
    Walks l.bytes l.count l.end l.left
    × ((before : List ℕ) × Saw l.seen before × (doubled before (contexts_in l.bytes l.end l.left)
    ≡ doubled [] (contexts_in l.bytes 0 l.count)))

abbrev pub decreases-loop-left : goal.decreases-loop-left
decreases-loop-left l = l.left
