use Rattle.std.proofs.Common.{◌≡◌, drop}
use Rattle.spec_wire.specs.messages.Offer.{has_id}
use Rattle.client_ends.proofs.dialog_responses.choice.has_id.Given as goal

abbrev pub invariant-loop-one : goal.invariant-loop-one
invariant-loop-one l = has_id l.id (drop l.one-index l.ids) ≡ has_id l.id l.ids
