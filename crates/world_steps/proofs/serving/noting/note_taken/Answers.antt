use Rattle.std.proofs.Common.{refl}
use Rattle.world_steps.proofs.serving.noting.note_taken.Goals as goal

pub returns-then-not-took : goal.returns-then-not-took
returns-then-not-took c = rw c.if-not-took.true refl

pub returns-in-Ok : goal.returns-in-Ok
returns-in-Ok c = rw c.if-not-took.false (c.note_at.ensures c.in-Ok.ensures.1)
