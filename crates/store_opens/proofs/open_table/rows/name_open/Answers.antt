use Rattle.std.proofs.Common.{◌∙◌}
use Rattle.store_opens.proofs.open_table.Keys.{pair_put, at_ok}
use Rattle.store_opens.proofs.open_table.rows.name_open.Goals as goal

pub returns-in-Some : goal.returns-in-Some
returns-in-Some c = λ k g.
    rw c.in-Some.is ((at_ok _ _ (c.insert.ensures.succeeds c.requires) c.insert.ensures.updates).0 (k, g)
    ∙ pair_put _ _ k g _ _)
