use Rattle.std.proofs.Common.{ℕ, Option, is_some, ap, ◌∙◌}
use Rattle.spec_wire.specs.messages.Places.{number_of}
use Rattle.server_core.proofs.durable_state.durable.Durable.has_guid.Goals as goal

pub returns : goal.returns
returns c = λ s h. c.is_some.ensures ∙ ap (λ (o : Option ℕ). is_some o) (c.by_guid.ensures s h.opens
    ∙ (ap (λ (x : ℕ). s.by_guid x c.guid_of-2.result) c.guid_of.ensures
    ∙ ap (λ (x : ℕ). s.by_guid (number_of c.args.new.now.client) x) c.guid_of-2.ensures))
