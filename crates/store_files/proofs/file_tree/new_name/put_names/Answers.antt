use Rattle.std.proofs.Common.{nat_eq, sym, ap, ◌∙◌}
use Rattle.std.specs.HashMap.{get}
use Rattle.store_files.specs.file_tree.Moved.{named_row}
use Rattle.store_files.proofs.file_tree.Renaming.{with_more}
use Rattle.store_files.proofs.file_tree.new_name.put_names.Goals as goal

pub loop-name-preserved : goal.loop-name-preserved
loop-name-preserved c = (
  λ f. c.put_name.ensures.rows f ∙ (ap (λ o. named_row c.in-Some.name f o) (c.loop-name.invariant.0 f)
      ∙ sym (with_more c.loop-name.yielded c.in-Some.name f (get nat_eq c.args.rows.now f))),
  c.put_name.ensures.count ∙ c.loop-name.invariant.1,
)
