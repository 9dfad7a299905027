use Rattle.std.proofs.Common.{sym, ◌∙◌, ap, refl}
use Rattle.store_files.specs.file_tree.Shown.{at_key, folded}
use Rattle.store_files.proofs.file_tree.Refused.{cancelled}
use Rattle.store_files.proofs.file_tree.RowsMade.{same_rows}
use Rattle.store_files.proofs.file_tree.tree.Tree.cancel_make.Goals as goal

pub returns-clause-shown : goal.returns-clause-shown
returns-clause-shown c = λ s path directory attributes now p.
    let k = c.as_str.ensures.value ∙ (p.row_is.row_is.key_is ∙ ap folded p.row_is.path_is) in
    record {
      rows = same_rows c.args.self.now _ s (λ q. refl) refl refl refl refl refl p.rows;
      keys_are = λ q. cancelled (folded path) q _ _ c.args.self.now.next (λ r. at_key s.entries r) p.free
          (rw (sym k) (c.forget_path.ensures q)) (p.keys_are q);
    }
