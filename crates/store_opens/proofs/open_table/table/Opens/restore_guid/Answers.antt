use Rattle.std.proofs.Common.{sym}
use Rattle.store_opens.proofs.open_table.StoodLemmas.{few_expired}
use Rattle.store_opens.proofs.open_table.table.Opens.restore_guid.Goals as goal

pub returns-in-Ok : goal.returns-in-Ok
returns-in-Ok c = λ s h.
    let e = c.if-not-may_expire_once.ensures s h in (
      e,
      c.put_expired.ensures.shown s (c.in-Ok.ensures.same s h) (few_expired s c.args.client c.args.guid (sym e)),
    )
