use Rattle.std.proofs.Common.{◌∙◌}
use Rattle.store_opens.proofs.open_table.Keys.{pair_put}
use Rattle.store_opens.proofs.open_table.rows.forget_name.Goals as goal

pub returns-in-Some-clause-at : goal.returns-in-Some-clause-at
returns-in-Some-clause-at c = λ k g. rw c.in-Some.is (c.remove.ensures.updates.0 (k, g) ∙ pair_put _ _ k g _ _)
