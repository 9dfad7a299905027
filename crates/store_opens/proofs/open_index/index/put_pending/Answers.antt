use Rattle.std.proofs.Common.{◌∙◌}
use Rattle.store_opens.proofs.open_index.IndexLemmas.{or_true}
use Rattle.store_opens.proofs.open_index.index.put_pending.Goals as goal

pub returns-in-Ok-clause-others : goal.returns-in-Ok-clause-others
returns-in-Ok-clause-others c = λ o d h. c.in-Ok.ensures.updates.0 (d, o) ∙ or_true _ _ h
