use Rattle.std.proofs.Common.{Some, None}
use Rattle.store_opens.proofs.open_table.Found.{found, parts_found}
use Rattle.store_opens.proofs.open_table.table.Opens.find.Goals as goal

pub returns-in-Some : goal.returns-in-Some
returns-in-Some c = λ s h. parts_found s c.args.id c.in-Some.row.now _
    (found c.args.self.now s c.args.id (Some c.in-Some.row.now) h c.in-Some.ensures.value) c.parts.ensures

pub returns-in-None : goal.returns-in-None
returns-in-None c = λ s h. found c.args.self.now s c.args.id None h c.in-None.ensures.value
