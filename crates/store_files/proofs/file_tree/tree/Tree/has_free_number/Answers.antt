use Rattle.std.proofs.Common.{arith}
use Rattle.store_files.proofs.file_tree.PutPlace.{number_free}
use Rattle.store_files.proofs.file_tree.tree.Tree.has_free_number.Goals as goal

pub returns : goal.returns
returns c = λ s h. number_free s c.args.file c.next_file.result c.exists.result (let z = c.if-file-eq0.false in omega arith)
    (let z = c.if-file-next_file.false in omega arith) (c.next_file.ensures.shown s h) (c.exists.ensures s h)
