use Rattle.std.proofs.Common.{arith}
use Rattle.std.proofs.lemmas.Grind.{common_steps}
use Rattle.store_files.proofs.file_tree.Full.{root_full}
use Rattle.store_files.proofs.file_tree.tree.Tree.full_root.Goals as goal

pub returns : goal.returns
returns c = λ s h. let e = c.count.ensures s h in let f = root_full s h.rows.no_empty h.rows.no_root in grind (arith, common_steps)
