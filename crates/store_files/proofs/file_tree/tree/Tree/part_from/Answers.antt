use Rattle.store_files.proofs.file_tree.PutPlace.{never_gone}
use Rattle.store_files.proofs.file_tree.tree.Tree.part_from.Goals as goal

pub returns-in-None-clause-none : goal.returns-in-None-clause-none
returns-in-None-clause-none c = λ s h there. never_gone c.args.self.now s c.args.file h c.in-None.ensures.value there
