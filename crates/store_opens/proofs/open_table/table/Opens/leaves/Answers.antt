use Rattle.std.proofs.Common.{None}
use Rattle.store_opens.proofs.open_table.Found.{found}
use Rattle.store_opens.proofs.open_table.PlainLemmas.{leaves_absent}
use Rattle.store_opens.proofs.open_table.table.Opens.leaves.Goals as goal

pub returns-in-None : goal.returns-in-None
returns-in-None c = λ s i h. leaves_absent s c.args.session c.args.id i (found c.args.self.now s c.args.id None h c.in-None.ensures.value)
