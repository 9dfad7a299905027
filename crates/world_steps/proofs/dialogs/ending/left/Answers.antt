use Rattle.std.proofs.Common.{refl}
use Rattle.world_steps.proofs.dialogs.ending.left.Goals as goal

pub returns-then-failed : goal.returns-then-failed
returns-then-failed c = rw c.if-failed.true (record {
  client = (c.closed.ensures.client, c.closed.ensures.down);
  server = c.closed.ensures.server;
  up = c.closed.ensures.up;
})

pub returns : goal.returns
returns c = rw c.if-failed.false (record { client = (refl, refl); server = refl; up = refl })
