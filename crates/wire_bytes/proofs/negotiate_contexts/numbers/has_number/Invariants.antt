use Rattle.std.proofs.Common.{◌≡◌, drop}
use Rattle.spec_wire.specs.messages.Offer.{has_id}
use Rattle.wire_bytes.proofs.negotiate_contexts.numbers.has_number.Given as goal

abbrev pub invariant-loop-number : goal.invariant-loop-number
invariant-loop-number l = has_id l.id (drop l.number-index l.numbers) ≡ has_id l.id l.numbers
