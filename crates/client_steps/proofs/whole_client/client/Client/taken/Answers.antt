use Rattle.std.proofs.Common.{sym, ◌∙◌}
use Rattle.client_steps.proofs.whole_client.client.Client.taken.Goals as goal

pub returns : goal.returns
returns c = λ d s. sym s.table.values.ops_counted ∙ sym c.count_of.ensures
