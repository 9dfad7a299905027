use Rattle.std.proofs.Common.{Ok, None, subst, sym}
use Rattle.server_core.specs.Shown.{config_of}
use Rattle.wait_locks.proofs.Begins.{cancelled}
use Rattle.wait_locks.specs.Begun.{BegunBy}
use Rattle.wait_locks.specs.Shown.{own_event, wait_event}
use Rattle.wait_locks.specs.declared.wait_server.WaitEvent.{WaitEvent}
use Rattle.wait_locks.proofs.wait_server.WaitServer.carry.Goals as goal

pub returns-in-Cancels-clause-step : goal.returns-in-Cancels-clause-step
returns-in-Cancels-clause-step g c = λ w L records h none.
    let P : WaitEvent → Type 0 = λ z. BegunBy g.D.Disk.told g.D.Disk.seen g.D.Disk.may_leave g.D.Disk.moment g.D.Disk.left_since g.D.Disk.faults c.args.self.now.server c.cancel.new.self c.cancel.new.finals.items w L
    records c.args.now c.args.at_once (own_event z) (wait_event (config_of c.args.self.now.server).users L w.server z) (Ok None) in
    subst P (sym c.in-Cancels.is)
    (cancelled g.D.Disk.told g.D.Disk.seen g.D.Disk.may_leave g.D.Disk.moment g.D.Disk.left_since g.D.Disk.faults c.args.self.now c.cancel.new.self c.cancel.new.finals.items w L records c.args.now c.args.at_once
    c.in-Cancels.connection c.in-Cancels.target h none c.cancel.ensures.rest c.args.finals.now.items c.requires.0 c.cancel.ensures.lists)
