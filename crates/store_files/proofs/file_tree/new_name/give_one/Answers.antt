use Rattle.std.proofs.Common.{nat_eq, sym, ◌∙◌}
use Rattle.std.specs.HashMap.{get}
use Rattle.std.specs.BTreeMap.{get_by_text}
use Rattle.store_files.proofs.file_tree.Names.{given_forgot, given_stays}
use Rattle.store_files.proofs.file_tree.new_name.give_one.Goals as goal

pub returns-then-is_taken : goal.returns-then-is_taken
returns-then-is_taken c = λ q. c.forget_path.ensures q ∙ rw c.as_str.ensures.value
    (given_forgot c.args.name.now q (λ k. get_by_text c.args.paths.now k) (λ f. get nat_eq c.args.rows.now f)
    (sym c.is_taken.ensures ∙ c.if-is_taken.true))

pub returns : goal.returns
returns c = λ q. given_stays c.args.name.now q (λ k. get_by_text c.args.paths.now k) (λ f. get nat_eq c.args.rows.now f)
    (sym c.is_taken.ensures ∙ c.if-is_taken.false)
