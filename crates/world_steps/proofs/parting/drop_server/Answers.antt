use Rattle.world_ends.specs.Tests.{served_in}
use Rattle.world_steps.proofs.Dropped.{dropped, not_there}
use Rattle.world_steps.proofs.Refusing.{memory, passed_by, refused_by}
use Rattle.world_steps.proofs.parting.drop_server.Goals as goal

pub returns-then-not-is_served : goal.returns-then-not-is_served
returns-then-not-is_served c = λ z w h.
    let x = c.args.world.now in
    not_there z x w c.args.k
    (refused_by served_in c.is_served.result _ x.channels.items c.args.k c.is_served.ensures c.deref.ensures.value
    c.if-not-is_served.true) h

pub returns-in-Ok : goal.returns-in-Ok
returns-in-Ok c = λ z w h.
    let x = c.args.world.now in
    dropped z x (record x { book = c.drop_end.new.book; channels = c.drop_end.new.channels }) c.later.new.world w c.args.k c.in-Ok.ensures
    (passed_by served_in c.is_served.result _ x.channels.items c.args.k c.is_served.ensures c.deref.ensures.value c.if-not-is_served.false)
    c.later.ensures.rest c.later.ensures.moment h

pub returns-in-Err : goal.returns-in-Err
returns-in-Err c = λ z w h. memory z _ w _ _ c.in-Err.ensures
