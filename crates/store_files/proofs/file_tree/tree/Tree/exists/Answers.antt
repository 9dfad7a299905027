use Rattle.store_files.proofs.file_tree.Found.{exists_found, exists_missing}
use Rattle.store_files.proofs.file_tree.tree.Tree.exists.Goals as goal

pub returns-in-Some : goal.returns-in-Some
returns-in-Some c = λ s h. exists_found s c.args.file _ (c.in-Some.ensures s h)

pub returns-in-None : goal.returns-in-None
returns-in-None c = λ s h. exists_missing s c.args.file (c.in-None.ensures s h)
