use Rattle.std.proofs.Common.{◌≡◌, ◌++◌, take}
use Rattle.spec_wire.specs.messages.Offer.{ids_spelling}
use Rattle.wire_bytes.proofs.negotiate_contexts.writing.put_all.Given as goal

abbrev pub invariant-loop-id : goal.invariant-loop-id
invariant-loop-id l = l.out ≡ l.initial.out ++ ids_spelling (take l.id-index l.ids)
