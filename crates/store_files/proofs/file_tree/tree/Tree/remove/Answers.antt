use Rattle.std.proofs.Common.{sym, ◌∙◌}
use Rattle.store_files.proofs.file_tree.Refused.{not_refused, other_file}
use Rattle.store_files.proofs.file_tree.Full.{there_in}
use Rattle.store_files.proofs.file_tree.tree.Tree.remove.Goals as goal

pub returns-clause-done : goal.returns-clause-done
returns-clause-done c = λ s h e. (
  not_refused s c.args.file (other_file c.args.file c.if-file-eq0.false)
      (sym (c.is_full.ensures s h e) ∙ c.if-is_full.false),
  c.take_away.ensures.shown s h
      (there_in s c.args.file (other_file c.args.file c.if-file-eq0.false) e) (sym (c.is_full.ensures s h e)
      ∙ c.if-is_full.false),
)
