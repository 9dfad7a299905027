use Rattle.std.proofs.Common.{◌∙◌}
use Rattle.store_files.proofs.file_tree.Found.{found_path, missing_path}
use Rattle.store_files.proofs.file_tree.tree.Tree.path.Goals as goal

pub returns-in-Some : goal.returns-in-Some
returns-in-Some c = λ s h. c.as_str.ensures ∙ found_path s c.args.file _ h.rows.no_root (c.in-Some.ensures s h)

pub returns-in-None : goal.returns-in-None
returns-in-None c = λ s h. missing_path s c.args.file (c.in-None.ensures s h)
