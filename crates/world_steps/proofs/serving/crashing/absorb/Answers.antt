use Rattle.std.proofs.Common.{refl}
use Rattle.world_steps.proofs.serving.crashing.absorb.Goals as goal

pub returns-in-Ok : goal.returns-in-Ok
returns-in-Ok c = record {
  mid = c.take_front.new.world;
  reply = c.in-Ok.reply;
  takes = c.in-Ok.ensures;
  rest = refl;
  closed = c.shut.ensures;
}

pub returns-in-Err : goal.returns-in-Err
returns-in-Err c = c.in-Err.ensures
