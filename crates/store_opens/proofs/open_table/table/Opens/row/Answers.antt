use Rattle.store_opens.proofs.open_table.Found.{found}
use Rattle.store_opens.proofs.open_table.table.Opens.row.Goals as goal

pub returns : goal.returns
returns c = λ s h. found c.args.self.now s c.args.id _ h c.get.ensures.value
