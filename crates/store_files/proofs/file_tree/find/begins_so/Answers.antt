use Rattle.std.proofs.Common.{sym, ◌∙◌}
use Rattle.store_files.proofs.file_tree.Order.{begins_folded, begins_short}
use Rattle.store_files.proofs.file_tree.find.begins_so.Goals as goal

pub returns-then-path-front : goal.returns-then-path-front
returns-then-path-front c =
    let a = c.as_bytes-path.ensures.value in
    let b = c.as_bytes-front.ensures.value in
    let t = c.if-path-front.true in
    sym (begins_short c.args.front.now c.args.path.now (rw (a, b) at t))

pub returns : goal.returns
returns c =
    let a = c.as_bytes-path.ensures.value in
    let b = c.as_bytes-front.ensures.value in
    let t = c.if-path-front.false in
    c.is_upper_of.ensures ∙ rw (a, b) (begins_folded c.args.front.now c.args.path.now (rw (a, b) at t))
