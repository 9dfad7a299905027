use Rattle.store_files.proofs.file_tree.tree.Tree.rename.Goals as goal

pub returns-in-Ok-clause-done : goal.returns-in-Ok-clause-done
returns-in-Ok-clause-done c = λ s h e.
    let p = c.in-Ok.ensures.prepared s h e in
    (p.0, c.finish_rename.ensures.shown s c.args.file c.args.to.now p.1)
