use Rattle.server_core.proofs.restart_tables.Behind.{at_any_moment, not_begun, not_recovered}
use Rattle.server_core.proofs.restart_tables.starting.restart.Goals as goal

pub begin-requires : goal.begin-requires
begin-requires g c = let r = c.in-Ok.ensures.cause in (r.2, r.1)

pub returns-in-Ok-begin : goal.returns-in-Ok-begin
returns-in-Ok-begin g c = record {
  answers = c.in-Ok-begin.ensures.answers c.args.disk (c.in-Ok.ensures.cause, c.in-Ok.ensures.settled);
  refused = tt;
  any_moment = at_any_moment g.D.Disk.told g.D.Disk.seen g.D.Disk.may_leave g.D.Disk.moment g.D.Disk.left_since g.D.Disk.faults
      c.args.disk c.in-Ok.journal c.begin.new.journal c.in-Ok.ensures.settled c.in-Ok.ensures.any_moment c.begin.ensures.any_moment;
  config = c.in-Ok-begin.ensures.config;
}

pub returns-in-Err-begin : goal.returns-in-Err-begin
returns-in-Err-begin g c = record {
  answers = tt;
  refused = not_begun g.D.Disk.told g.D.Disk.seen g.D.Disk.may_leave g.D.Disk.moment g.D.Disk.left_since g.D.Disk.faults
      c.broken_means_nothing.ensures c.args.disk c.in-Ok.journal c.begin.new.journal c.stop.result c.in-Err-begin.cause c.stop.ensures
      (c.in-Ok.ensures.cause, c.in-Ok.ensures.settled) c.in-Ok.ensures.any_moment
      (c.in-Err-begin.ensures.answers c.args.disk (c.in-Ok.ensures.cause, c.in-Ok.ensures.settled)) c.in-Err-begin.ensures.unwritten
      c.begin.ensures.stays c.begin.ensures.any_moment;
  any_moment = tt;
  config = tt;
}

pub returns-in-Err : goal.returns-in-Err
returns-in-Err g c = record {
  answers = tt;
  refused = not_recovered g.D.Disk.told g.D.Disk.seen g.D.Disk.may_leave g.D.Disk.moment g.D.Disk.left_since g.D.Disk.faults
      c.broken_means_nothing.ensures c.args.disk c.in-Err.refused.disk c.in-Err.refused.cause c.in-Err.ensures.cause
      c.in-Err.ensures.spared c.in-Err.ensures.stays c.in-Err.ensures.any_moment;
  any_moment = tt;
  config = tt;
}
