use Rattle.std.proofs.Common.{nat_eq, arith}
use Rattle.std.specs.HashMap.{get}
use Rattle.std.specs.BTreeMap.{get_by_text}
use Rattle.store_files.specs.file_tree.Moved.{given_back}
use Rattle.store_files.proofs.file_tree.Renaming.{one_step, all_steps}
use Rattle.store_files.proofs.file_tree.new_name.give_back.Goals as goal

pub loop-i-preserved : goal.loop-i-preserved
loop-i-preserved c = λ q. one_step (given_back (λ f. get nat_eq c.args.rows.now f)) c.args.names.now c.loop-i.i
    c.index-names-i.result q (get_by_text c.args.paths.now q) (get_by_text c.loop-i.paths q)
    (get_by_text c.give_one.new.paths q) (omega arith) c.index-names-i.is (c.loop-i.invariant q) (c.give_one.ensures q)

pub returns : goal.returns
returns c = λ q. all_steps (given_back (λ f. get nat_eq c.args.rows.now f)) c.args.names.now c.loop-i.i q
    (get_by_text c.args.paths.now q) (get_by_text c.loop-i.paths q) (omega arith) (c.loop-i.invariant q)
