use Rattle.std.proofs.Common.{[], refl}
use Rattle.server_core.specs.Shown.{config_of}
use Rattle.wait_locks.proofs.Begins.{served_ill, served_well}
use Rattle.wait_locks.proofs.wait_server.WaitServer.to_server.Goals as goal

pub returns-in-Ok-clause-step : goal.returns-in-Ok-clause-step
returns-in-Ok-clause-step g c = λ w L records h none.
    served_well g.D.Disk.told g.D.Disk.seen g.D.Disk.may_leave g.D.Disk.moment g.D.Disk.left_since g.D.Disk.faults c.args.self.now _ w L records c.args.now c.args.event h none
    (c.drop_by.ensures (config_of c.args.self.now.server).users L w.server) refl
    (λ t bodies j. c.event.ensures.any_moment t [] w.server L records bodies (h.server.holds none) j) c.in-Ok.answer _ refl
    (c.asker_of-asker.ensures (config_of c.args.self.now.server).users L w.server) refl c.event.ensures.config (c.in-Ok.ensures.step [] w.server L records (h.server.holds none))

pub returns-in-Err-clause-step : goal.returns-in-Err-clause-step
returns-in-Err-clause-step g c = λ w L records h none.
    served_ill g.D.Disk.told g.D.Disk.seen g.D.Disk.may_leave g.D.Disk.moment g.D.Disk.left_since g.D.Disk.faults c.args.self.now _ w L records c.args.now c.args.event h none
    (c.drop_by.ensures (config_of c.args.self.now.server).users L w.server) refl
    (λ t bodies j. c.event.ensures.any_moment t [] w.server L records bodies (h.server.holds none) j) refl c.in-Err.error
    (c.in-Err.ensures.step [] w.server L records (h.server.holds none))
