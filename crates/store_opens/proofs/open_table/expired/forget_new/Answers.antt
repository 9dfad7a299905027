use Rattle.std.proofs.Common.{false, ◌∙◌}
use Rattle.store_opens.proofs.open_table.Keys.{pair_put}
use Rattle.store_opens.proofs.open_table.expired.forget_new.Goals as goal

pub returns : goal.returns
returns c = λ k g. rw c.if-was_kept.false (c.remove.ensures.updates.0 (k, g) ∙ pair_put c.args.client c.args.guid k g _ _)
