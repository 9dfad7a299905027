use Rattle.store_files.proofs.file_tree.tree.Tree.make.Goals as goal

pub returns-in-Ok-clause-done : goal.returns-in-Ok-clause-done
returns-in-Ok-clause-done c = λ s h.
    let p = c.in-Ok.ensures.prepared s h in
    let m = c.finish_make.ensures.shown s c.args.path.now c.args.directory c.args.attributes c.args.now p.1 in
    (p.0, m.0, m.1)
