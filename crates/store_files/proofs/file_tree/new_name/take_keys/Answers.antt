use Rattle.std.proofs.Common.{nat_eq, take, ap, ◌∙◌, arith}
use Rattle.std.specs.HashMap.{get}
use Rattle.std.specs.BTreeMap.{get_by_text}
use Rattle.store_files.specs.file_tree.Moved.{name_taken, given_back, one_by_one}
use Rattle.store_files.proofs.file_tree.Renaming.{one_step, all_steps}
use Rattle.store_files.proofs.file_tree.new_name.take_keys.Goals as goal

pub returns-in-Err-clause-err : goal.returns-in-Err-clause-err
returns-in-Err-clause-err c = (
  c.loop-i.i,
  λ q. c.give_back.ensures q
      ∙ ap (λ o. one_by_one (given_back (λ f. get nat_eq c.args.rows.now f)) (take c.loop-i.i c.args.names.now) q o)
      (c.in-Err.ensures.err q ∙ c.loop-i.invariant q),
)

pub loop-i-preserved : goal.loop-i-preserved
loop-i-preserved c = λ q. one_step name_taken c.args.names.now c.loop-i.i c.index-names-i.result q
    (get_by_text c.args.paths.now q) (get_by_text c.loop-i.paths q) (get_by_text c.take_key.new.paths q) (omega arith)
    c.index-names-i.is (c.loop-i.invariant q) (c.in-Ok.ensures.ok q)

pub returns-clause-ok : goal.returns-clause-ok
returns-clause-ok c = λ q. all_steps name_taken c.args.names.now c.loop-i.i q (get_by_text c.args.paths.now q)
    (get_by_text c.loop-i.paths q) (omega arith) (c.loop-i.invariant q)
