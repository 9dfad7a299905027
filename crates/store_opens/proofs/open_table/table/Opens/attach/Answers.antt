use Rattle.std.proofs.Common.{sym}
use Rattle.store_opens.proofs.open_table.Refused.{attach_stands}
use Rattle.store_opens.proofs.open_table.table.Opens.attach.Goals as goal

pub returns-in-Some : goal.returns-in-Some
returns-in-Some c = λ s h. (sym (c.in-Some.ensures s h), h)

pub returns-in-Err : goal.returns-in-Err
returns-in-Err c = λ s h. (sym (c.in_default.ensures s h), c.in-Err.ensures.same s h)

pub returns-in-Ok : goal.returns-in-Ok
returns-in-Ok c = λ s h.
    let free = sym (c.in_default.ensures s h) in
    (free, c.put_attached.ensures s (c.in-Ok.ensures.same s h) (attach_stands s c.args.id c.args.guid c.args.session c.args.user.now free))
