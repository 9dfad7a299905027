use Rattle.store_files.proofs.file_tree.Found.{never_missing}
use Rattle.store_files.proofs.file_tree.tree.Tree.below.Goals as goal

pub returns-in-Some : goal.returns-in-Some
returns-in-Some c = λ s h e g. c.in_ok-files-in-Some.ensures s c.args.directory h (c.in-Some.ensures s h) g

pub returns-in-None : goal.returns-in-None
returns-in-None c = λ s h e g. absurd (let x = never_missing s c.args.directory (c.in-None.ensures s h) e in cc)
