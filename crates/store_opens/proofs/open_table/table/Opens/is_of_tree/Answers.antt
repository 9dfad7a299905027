use Rattle.std.proofs.Common.{Some, None, ◌∙◌}
use Rattle.store_opens.proofs.open_table.Found.{found, row_of_tree, tree_found, not_of_tree}
use Rattle.store_opens.proofs.open_table.table.Opens.is_of_tree.Goals as goal

pub returns-in-Some : goal.returns-in-Some
returns-in-Some c = λ s h.
    let t = c.args.self.now in let r = Some c.in-Some.row.now in
    c.is_row_of.ensures ∙ row_of_tree s c.args.id c.args.session c.args.tree c.in-Some.row.now
    (found t s c.args.id r h c.in-Some.ensures.value) (tree_found t s c.args.id r h c.in-Some.ensures.value)

pub returns-in-None : goal.returns-in-None
returns-in-None c = λ s h. not_of_tree s c.args.id c.args.session c.args.tree
    (found c.args.self.now s c.args.id None h c.in-None.ensures.value)
