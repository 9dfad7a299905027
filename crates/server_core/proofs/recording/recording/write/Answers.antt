use Rattle.std.proofs.Common.{refl}
use Rattle.server_core.proofs.recording.Stops.{stops}
use Rattle.server_core.proofs.recording.recording.write.Goals as goal

pub write_body-requires : goal.write_body-requires
write_body-requires g c = c.requires.0

pub returns-in-Ok : goal.returns-in-Ok
returns-in-Ok g c = record {
  writes = (refl, c.in-Ok.ensures.cause.0, c.in-Ok.ensures.cause.1);
  same = refl;
  acknowledged = c.in-Ok.ensures.acknowledged;
  any_moment = c.in-Ok.ensures.any_moment;
  none = λ none. refl;
}

pub returns-in-Err : goal.returns-in-Err
returns-in-Err g c = record {
  writes = stops g.D.Disk.faults c.args.server.now (record c.args.server.now {
    journal = c.write_body.new.journal;
    stopped = c.stopped_behind-server.result;
  }) c.args.body.now c.in-Err.error c.in-Err.ensures.cause c.stopped_behind-server.ensures;
  same = refl;
  acknowledged = λ told bodies settled. tt;
  any_moment = c.in-Err.ensures.any_moment;
  none = c.in-Err.ensures.none;
}
