use Rattle.server_core.proofs.event_step.back.carry_behind.Goals as goal

pub carry_both-requires : goal.carry_both-requires
carry_both-requires g c = c.requires

pub returns-in-Ok : goal.returns-in-Ok
returns-in-Ok g c = record {
  step = λ base users s y L records e o f may. c.in-Ok.ensures.step base users s y L records e o f may;
  any_moment = c.carry_both.ensures.any_moment;
  none = tt;
  config = c.carry_both.ensures.config;
}

pub returns-in-Err : goal.returns-in-Err
returns-in-Err g c = record {
  step = λ base users s y L records e o f may. c.in-Err.ensures.step base users s y L records e o f may;
  any_moment = c.carry_both.ensures.any_moment;
  none = tt;
  config = c.carry_both.ensures.config;
}
