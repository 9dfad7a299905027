use Rattle.store_files.proofs.file_tree.placing.placed_row.Goals as goal

pub returns-in-Ok : goal.returns-in-Ok
returns-in-Ok c = c.filled.ensures c.args.path.now c.in-Ok.ensures
