use Rattle.std.proofs.Common.{nat_eq, sym, ◌∙◌}
use Rattle.std.specs.HashMap.{get}
use Rattle.std.specs.BTreeMap.{get_by_text}
use Rattle.store_files.proofs.file_tree.Names.{moved_own, moved_other}
use Rattle.store_files.proofs.file_tree.new_name.move_key.Goals as goal

pub returns-then-has_key : goal.returns-then-has_key
returns-then-has_key c = λ q. c.set_path.ensures q ∙ rw c.as_str.ensures.value
    (moved_own c.args.name.now q (λ k. get_by_text c.args.paths.now k) (λ f. get nat_eq c.args.rows.now f)
    (sym c.has_key.ensures ∙ c.if-has_key.true))

pub returns : goal.returns
returns c = λ q. c.set_path-2.ensures q ∙ rw (c.as_str-2.ensures.value, c.forget_old.ensures q)
    (moved_other c.args.name.now q (λ k. get_by_text c.args.paths.now k) (λ f. get nat_eq c.args.rows.now f)
    (sym c.has_key.ensures ∙ c.if-has_key.false))
