use Rattle.std.proofs.Common.{refl}
use Rattle.world_steps.proofs.taking.noting.note_if.Goals as goal

pub returns-then-settles : goal.returns-then-settles
returns-then-settles c = rw c.if-settles.true c.note_settled.ensures

pub returns : goal.returns
returns c = rw c.if-settles.false refl
