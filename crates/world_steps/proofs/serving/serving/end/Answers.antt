use Rattle.world_steps.proofs.serving.serving.end.Goals as goal

pub returns-in-Ok : goal.returns-in-Ok
returns-in-Ok c = record {
  mid = record c.args.world.now { book = c.drop_end.new.book; channels = c.drop_end.new.channels };
  rest = c.later.ensures.rest;
  time = c.later.ensures.moment;
  drops = c.in-Ok.ensures;
}

pub returns-in-Err : goal.returns-in-Err
returns-in-Err c = c.in-Err.ensures
