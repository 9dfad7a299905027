use Rattle.store_files.proofs.file_tree.Found.{found_info, never_missing}
use Rattle.store_files.proofs.file_tree.tree.Tree.info.Goals as goal

pub returns-in-Some : goal.returns-in-Some
returns-in-Some c = λ s h e. found_info s c.args.file _ _ (c.in-Some.ensures s h) c.info_of.ensures

pub returns-in-None : goal.returns-in-None
returns-in-None c = λ s h e. absurd (let x = never_missing s c.args.file (c.in-None.ensures s h) e in cc)
