use Rattle.std.proofs.Common.{◌∙◌}
use Rattle.store_opens.proofs.open_table.Keys.{pair_put, at_ok}
use Rattle.store_opens.proofs.open_table.expired.put_guid.Goals as goal

pub returns : goal.returns
returns c = λ k g. (at_ok _ _ (c.insert.ensures.succeeds c.requires) c.insert.ensures.updates).0 (k, g) ∙ pair_put _ _ k g _ _
