use Rattle.std.proofs.Common.{ℕ, Option, is_some, ap, ◌∙◌}
use Rattle.spec_exchange.specs.Effects.{next_open}
use Rattle.server_core.proofs.durable_state.Making.{ids_left}
use Rattle.server_core.proofs.durable_state.durable.Durable.has_ids.Goals as goal

pub returns : goal.returns
returns c = λ s h. c.is_some.ensures ∙ (ap (λ (o : Option ℕ). is_some o) (c.next_id.ensures.shown s h.opens)
    ∙ ids_left s.open_ids_given (next_open s))
