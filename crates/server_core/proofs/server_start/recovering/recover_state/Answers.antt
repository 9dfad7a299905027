use Rattle.server_core.proofs.server_start.Recovered.{begun}
use Rattle.server_core.proofs.server_start.recovering.recover_state.Goals as goal

pub returns-in-Ok : goal.returns-in-Ok
returns-in-Ok g c = record {
  holds = begun g.D.Disk.told g.D.Disk.seen g.D.Disk.may_leave g.D.Disk.faults c.args.config c.args.disk _ _ c.in-Ok.ensures.answers;
  refused = tt;
  any_moment = c.in-Ok.ensures.any_moment;
  config = c.in-Ok.ensures.config;
}

pub returns-in-Err : goal.returns-in-Err
returns-in-Err g c = record { holds = tt; refused = c.in-Err.ensures.refused; any_moment = tt; config = tt }
