use Rattle.std.proofs.Common.{◌∙◌}
use Rattle.spec_wire.specs.messages.Contexts.{contexts_in}
use Rattle.spec_wire.specs.messages.Offer.{first_of}
use Rattle.client_ends.proofs.dialog_responses.Hashes.{counted, none_counted, wide_enough}
use Rattle.client_ends.proofs.dialog_responses.contexts.hashes_in.Goals as goal

pub u16_at-requires : goal.u16_at-requires
u16_at-requires c = wide_enough c.in-Some.found.now c.in-Some.ensures.1

pub returns-in-Some : goal.returns-in-Some
returns-in-Some c =
    c.u16_at.ensures.value
    ∙ counted c.in-Some.found.now (first_of 1 (contexts_in c.args.bytes.now 0 c.args.count)) c.in-Some.ensures.0

pub returns-in-None : goal.returns-in-None
returns-in-None c = none_counted (first_of 1 (contexts_in c.args.bytes.now 0 c.args.count)) c.in-None.ensures
