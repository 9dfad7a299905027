use Rattle.std.proofs.Common.{nat_eq, sym, ap, ◌∙◌}
use Rattle.std.specs.HashMap.{get}
use Rattle.store_files.specs.file_tree.Shown.{folded}
use Rattle.store_files.proofs.file_tree.RowsMade.{row_there}
use Rattle.store_files.proofs.file_tree.Gathered.{no_row_there}
use Rattle.store_files.proofs.file_tree.PutBack.{row_path}
use Rattle.store_files.proofs.file_tree.tree.Tree.key_to_keep.Goals as goal

pub returns-in-Ok : goal.returns-in-Ok
returns-in-Ok c = λ s h e.
    let f = c.args.file in
    let r = row_there (get nat_eq c.args.self.now.rows f) c.in-Some.row.now _ _ _ _ _ (sym c.in-Some.ensures.value) (h.rows.rows_are f) in
    c.in-Ok.ensures.cases ∙ (r.1.key_is ∙ ap folded (sym (row_path c.args.self.now s f c.in-Some.row.now h (sym c.in-Some.ensures.value))))

pub returns-in-None : goal.returns-in-None
returns-in-None c = λ s h e. absurd (let y = no_row_there c.args.self.now s c.args.file h (sym c.in-None.ensures.value) e in cc)
