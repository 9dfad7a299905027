use Rattle.std.proofs.Common.{sym}
use Rattle.store_opens.proofs.open_table.StoodLemmas.{standing_off}
use Rattle.store_opens.proofs.open_table.table.Opens.stand.Goals as goal

pub returns-in-Ok : goal.returns-in-Ok
returns-in-Ok c = λ s i h.
    let e = c.if-not-may_stand_again.ensures s h in (
      e,
      c.put_stood.ensures s c.args.made.now c.args.user.now i (c.in-Ok.ensures.same s h)
          (standing_off s c.args.id c.args.made.now (sym e)) c.in-Ok.ensures.noted c.in-Ok.ensures.row,
    )
