use Rattle.world_ends.specs.Tests.{readied_in}
use Rattle.world_steps.proofs.Refusing.{memory, passed_by, refused_by}
use Rattle.world_steps.proofs.sending.Pushed.{not_ready, pushes}
use Rattle.world_steps.proofs.sending.pushing.push.Goals as goal

pub returns-then-not-is_ready : goal.returns-then-not-is_ready
returns-then-not-is_ready c = λ z w h.
    let x = c.args.world.now in
    not_ready z x w c.args.k
    (refused_by readied_in c.is_ready.result _ x.channels.items c.args.k c.is_ready.ensures c.deref.ensures.value c.if-not-is_ready.true) h

pub returns-in-Ok : goal.returns-in-Ok
returns-in-Ok c = λ z w h.
    let x = c.args.world.now in
    let e = c.push_lowest.new in
    pushes z x (record x { client = e.client; channels = e.channels }) c.later.new.world w c.args.k c.in-Ok.ensures
    (passed_by readied_in c.is_ready.result _ x.channels.items c.args.k c.is_ready.ensures c.deref.ensures.value c.if-not-is_ready.false)
    c.later.ensures.rest c.later.ensures.moment h

pub returns-in-Err : goal.returns-in-Err
returns-in-Err c = λ z w h. memory z _ w _ _ c.in-Err.ensures
