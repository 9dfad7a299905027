use Rattle.wait_locks.proofs.Begins.{served_begun}
use Rattle.wait_locks.proofs.wait_server.WaitServer.serve.Goals as goal

pub returns-in_default : goal.returns-in_default
returns-in_default g c = record {
  step = λ w L records h none.
      served_begun g.D.Disk.told g.D.Disk.seen g.D.Disk.may_leave g.D.Disk.moment g.D.Disk.left_since g.D.Disk.faults c.args.self.now.server c.to_server.new.self c.args.finals.now.items w L records c.args.now
      c.args.at_once c.args.event c.to_server.result c.requires.0 c.in_default.not-Message (c.to_server.ensures.step w L records h none);
  config = c.to_server.ensures.config;
}
