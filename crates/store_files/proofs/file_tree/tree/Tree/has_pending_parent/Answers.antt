use Rattle.std.proofs.Common.{sym, ap, ◌∙◌}
use Rattle.spec_exchange.specs.Files.{find, has_pending_parent, info_of, is_found_pending}
use Rattle.spec_exchange.specs.State as model
use Rattle.store_files.proofs.file_tree.Found.{found_there}
use Rattle.store_files.proofs.file_tree.tree.Tree.has_pending_parent.Goals as goal

pub returns-in-Some : goal.returns-in-Some
unfolding has_pending_parent is_found_pending info_of
returns-in-Some c = λ s h. let f = c.in-Some.ensures s h in
    ap (λ (x : model.Info). x.is_delete_pending) (c.info.ensures s h (found_there s _ _ (sym f)))
    ∙ ap (is_found_pending s) (f ∙ ap (find s) c.parent_of.ensures)

pub returns-in-None : goal.returns-in-None
unfolding has_pending_parent is_found_pending
returns-in-None c = λ s h. let f = c.in-None.ensures s h in ap (is_found_pending s) (f ∙ ap (find s) c.parent_of.ensures)
