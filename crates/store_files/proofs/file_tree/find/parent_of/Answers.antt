use Rattle.store_files.proofs.file_tree.Children.{parent_split, parent_none}
use Rattle.store_files.proofs.file_tree.find.parent_of.Goals as goal

pub returns-in-Some : goal.returns-in-Some
returns-in-Some c = let k = c.in-Some.ensures.cases in parent_split c.args.path.now _ k.0 k.1 k.3 k.2.0 k.2.1

pub returns-in-None : goal.returns-in-None
returns-in-None c = parent_none c.args.path.now c.in-None.ensures.cases
