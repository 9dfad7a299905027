use Rattle.std.proofs.Common.{sym}
use Rattle.store_files.proofs.file_tree.tree.Tree.place.Goals as goal

pub returns-in-Ok-clause-shown : goal.returns-in-Ok-clause-shown
returns-in-Ok-clause-shown c = λ s h.
    let e = c.if-not-may_be_placed.ensures.rule s h in (
      e,
      c.put_placed.ensures.shown s c.args.path.now (c.in-Ok.ensures.named s h) c.in-Ok.ensures.row (sym e),
    )
