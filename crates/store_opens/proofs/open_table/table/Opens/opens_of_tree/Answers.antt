use Rattle.std.proofs.Common.{Option, sym, ap, ◌∙◌}
use Rattle.store_opens.specs.declared.open_index.keep.SessionOpens.{SessionOpens}
use Rattle.store_opens.specs.open_index.Keep.{keep_lists}
use Rattle.store_opens.proofs.open_index.SetLemmas.{contains_has, ordered_ascends}
use Rattle.store_opens.proofs.open_table.TreeLemmas.{tree_none, tree_all_listed}
use Rattle.store_opens.proofs.open_table.table.Opens.opens_of_tree.Goals as goal

pub returns-in-Some : goal.returns-in-Some
returns-in-Some c = tree_all_listed c.args.self.now c.args.session c.args.tree c.in-Some.row.now.opens.keys c.all_of_tree.result
    c.all_of_tree.ensures.listed (ordered_ascends _ c.all_of_tree.ensures.ordered)
    (λ o. ap (λ (r : Option SessionOpens). keep_lists r o) (sym c.in-Some.ensures.value) ∙ contains_has o c.in-Some.row.now.opens.keys)

pub returns-in-None : goal.returns-in-None
returns-in-None c = λ s i h. c.new.ensures.items ∙ tree_none c.args.self.now s c.args.session c.args.tree h i
    (λ o. ap (λ (r : Option SessionOpens). keep_lists r o) (sym c.in-None.ensures.value))
