use Rattle.std.proofs.Common.{sym}
use Rattle.store_files.proofs.file_tree.PutPlace.{bytes_may}
use Rattle.store_files.proofs.file_tree.tree.Tree.restore_bytes.Goals as goal

pub returns-in-Ok-clause-shown : goal.returns-in-Ok-clause-shown
returns-in-Ok-clause-shown c = λ s h.
    let e = c.if-not-may_have_bytes.ensures.rule s h in
    let m = bytes_may s c.args.file c.args.at c.args.bytes.now (sym e) in (
      e,
      c.put_bytes.ensures.shown s c.args.file c.args.at (c.in-Ok.ensures.same s h) (c.in-Ok.ensures.ready s h m.there) m.there m.fits,
    )
