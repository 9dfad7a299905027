use Rattle.std.proofs.Common.{rules, sym, ◌∙◌}
use Rattle.store_files.specs.file_tree.Shown.{folded}
use Rattle.store_files.proofs.file_tree.Long.{hit, passed}
use Rattle.store_files.proofs.file_tree.tree.Tree.find_long.Goals as goal

pub returns-then-is_key_of : goal.returns-then-is_key_of
returns-then-is_key_of c = λ s h. sym (hit (folded c.args.path.now) c.in-Some.key.now c.in-Some.file.now _ _ _ _
    c.loop-key.invariant.2 c.in-Some.ensures.steps c.is_key_of.ensures c.if-is_key_of.true)
    ∙ h.keys_are (folded c.args.path.now)

pub loop-key-preserved : goal.loop-key-preserved
loop-key-preserved c = (
  search rules,
  search rules,
  passed (folded c.args.path.now) c.in-Some.key.now c.in-Some.file.now
      _ _ _ _ c.loop-key.invariant.2 c.in-Some.ensures.steps c.is_key_of.ensures c.if-is_key_of.false,
)
