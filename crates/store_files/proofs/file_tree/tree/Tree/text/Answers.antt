use Rattle.std.proofs.Common.{Some, ap}
use Rattle.store_files.proofs.file_tree.Found.{found_path, never_missing}
use Rattle.store_files.proofs.file_tree.tree.Tree.text.Goals as goal

pub returns-in-Some : goal.returns-in-Some
returns-in-Some c = λ s h there. ap Some (found_path s c.args.file _ h.rows.no_root (c.in-Some.ensures s h))

pub returns-in-None : goal.returns-in-None
returns-in-None c = λ s h there. absurd (let x = never_missing s c.args.file (c.in-None.ensures s h) there in cc)
