use Rattle.std.proofs.Common.{sym}
use Rattle.store_opens.proofs.open_table.table.Opens.restore.Goals as goal

pub returns-in-Some : goal.returns-in-Some
returns-in-Some c = λ s i h. (sym (c.in-Some.ensures s h), h)

pub returns-in-Err : goal.returns-in-Err
returns-in-Err c = λ s i h. (sym (c.in_default.ensures s h), c.in-Err.ensures.same s h)

pub returns-in-Ok : goal.returns-in-Ok
returns-in-Ok c = λ s i h.
    let free = sym (c.in_default.ensures s h) in (
      free,
      c.put_restored.ensures s c.args.made.now c.args.user.now i (c.in-Ok.ensures.same s h) free
          c.in-Ok.ensures.noted c.in-Ok.ensures.row,
    )
