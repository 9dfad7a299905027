use Rattle.server_core.proofs.server.Server.recover.Goals as goal

pub returns-in-Ok : goal.returns-in-Ok
returns-in-Ok g c = record {
  holds = c.in-Ok.ensures.holds;
  refused = tt;
  any_moment = c.in-Ok.ensures.any_moment;
  config = c.in-Ok.ensures.config;
}

pub returns-in-Err : goal.returns-in-Err
returns-in-Err g c = record { holds = tt; refused = c.in-Err.ensures.refused; any_moment = tt; config = tt }
