use Rattle.store_files.proofs.file_tree.Found.{never_missing}
use Rattle.store_files.proofs.file_tree.tree.Tree.take_named.Goals as goal

pub returns-in-None : goal.returns-in-None
returns-in-None c = λ s h e. absurd (let x = never_missing s c.args.directory (c.in-None.ensures s h) e in cc)
