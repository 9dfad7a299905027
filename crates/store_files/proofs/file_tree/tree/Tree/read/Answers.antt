use Rattle.store_files.proofs.file_tree.Found.{never_missing}
use Rattle.store_files.proofs.file_tree.Lengths.{read_told}
use Rattle.store_files.proofs.file_tree.tree.Tree.read.Goals as goal

pub returns-in-Some : goal.returns-in-Some
returns-in-Some c = read_told c.args.self.now c.args.file c.args.at c.args.length c.in-Some.row.now c.read_row.result
    c.in-Some.ensures c.read_row.ensures

pub returns-in-None : goal.returns-in-None
returns-in-None c = λ s h e. absurd (let x = never_missing s c.args.file (c.in-None.ensures s h) e in cc)
