use Rattle.std.proofs.Common.{not, ◌∙◌, ap}
use Rattle.store_files.proofs.file_tree.Found.{never_missing}
use Rattle.store_files.proofs.file_tree.Refusing.{root_below}
use Rattle.store_files.proofs.file_tree.tree.Tree.stands_below.Goals as goal

pub returns-in-None : goal.returns-in-None
returns-in-None c = λ s h e. absurd (let x = never_missing s c.args.file (c.in-None.ensures s h) e in cc)

pub returns-then-file-eq0 : goal.returns-then-file-eq0
returns-then-file-eq0 c = λ s h e. ap not c.is_empty.ensures ∙ root_below s c.args.file c.args.path.now h.rows.no_root c.if-file-eq0.true
