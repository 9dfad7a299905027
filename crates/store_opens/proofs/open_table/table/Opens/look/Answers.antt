use Rattle.std.proofs.Common.{Some, None}
use Rattle.store_opens.proofs.open_table.Found.{found}
use Rattle.store_opens.proofs.open_table.table.Opens.look.Goals as goal

pub returns-in-Some : goal.returns-in-Some
returns-in-Some c = λ s h st. c.look.ensures (s.lock_sequences c.args.id)
    (found c.args.self.now s c.args.id (Some c.in-Some.row.now) h c.in-Some.ensures.value).1.slots_are

pub returns-in-None : goal.returns-in-None
returns-in-None c = λ s h st. absurd (let e = found c.args.self.now s c.args.id None h c.in-None.ensures.value in cc)
