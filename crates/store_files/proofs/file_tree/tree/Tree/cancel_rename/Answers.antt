use Rattle.std.proofs.Common.{List, nat_eq, refl, ap, ◌∙◌}
use Rattle.std.specs.HashMap.{get}
use Rattle.std.specs.BTreeMap.{get_by_text}
use Rattle.store_files.specs.declared.file_tree.new_name.NewName.{NewName}
use Rattle.store_files.specs.file_tree.Moved.{given_back, one_by_one}
use Rattle.store_files.proofs.file_tree.RowsMade.{same_rows}
use Rattle.store_files.proofs.file_tree.Landed.{restored}
use Rattle.store_files.proofs.file_tree.tree.Tree.cancel_rename.Goals as goal

pub returns-clause-shown : goal.returns-clause-shown
returns-clause-shown c = λ s file to p.
    let t = c.args.self.now in
    let ns = c.args.moved.names.items in record {
      rows = same_rows t _ s (λ q. refl) refl refl refl refl refl p.rows;
      keys_are = λ q. c.give_back.ensures q
          ∙ (ap (λ (l : List NewName). one_by_one (given_back (λ f. get nat_eq t.rows f)) l q (get_by_text t.paths q)) c.deref.ensures.value
          ∙ (ap (λ o. one_by_one (given_back (λ f. get nat_eq t.rows f)) ns q o) (p.keys_are q) ∙ restored t s p.rows ns q));
    }
