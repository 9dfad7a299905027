use Rattle.std.proofs.Common.{refl, ◌∙◌}
use Rattle.store_opens.proofs.open_table.Dropped.{told_left}
use Rattle.store_opens.proofs.open_table.table.Opens.stands.Goals as goal

pub returns : goal.returns
returns c = λ s h. c.contains_key.ensures ∙ told_left c.args.self.now c.args.id s _ refl h
