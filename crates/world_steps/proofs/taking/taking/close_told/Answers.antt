use Rattle.std.proofs.Common.{refl}
use Rattle.world_steps.proofs.taking.taking.close_told.Goals as goal

pub returns-then-all : goal.returns-then-all
returns-then-all c = rw c.if-all.true (refl, c.close_clients.ensures)

pub returns-else-all : goal.returns-else-all
returns-else-all c = rw c.if-all.false (refl, refl)
