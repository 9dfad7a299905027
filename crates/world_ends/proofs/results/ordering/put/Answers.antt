use Rattle.world_ends.proofs.results.Adding.{puts_none}
use Rattle.world_ends.proofs.results.ordering.put.Goals as goal

pub returns-in-Some : goal.returns-in-Some
returns-in-Some c = rw c.in-Some.is c.put_on.ensures

pub returns-in-None : goal.returns-in-None
returns-in-None c = rw c.in-None.is (puts_none c.args.world.now c.args.place c.args.number c.args.orders.now.items)
