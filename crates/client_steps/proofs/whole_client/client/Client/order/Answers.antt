use Rattle.std.proofs.Common.{sym, ◌∙◌}
use Rattle.client_steps.proofs.whole_client.client.Client.order.Goals as goal

pub returns : goal.returns
returns c = λ d s. s.table.order ∙ sym c.as_slice.ensures.value
