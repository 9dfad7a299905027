use Rattle.store_files.proofs.file_tree.Order.{next_some, next_none}
use Rattle.store_files.proofs.file_tree.index.next_key.Goals as goal

pub returns-in-Some : goal.returns-in-Some
returns-in-Some c = let r = c.range.ensures.in_range tt in let e = c.in-Some.ensures.steps in next_some c.args.paths.now
    c.args.start.now _ _ _ (rw e at r)

pub returns-in-None : goal.returns-in-None
returns-in-None c = let r = c.range.ensures.in_range tt in let e = c.in-None.ensures.steps in next_none c.args.paths.now
    c.args.start.now (rw (e.0) at r)
