use Rattle.world_steps.proofs.Refusing.{memory, refused_by}
use Rattle.world_steps.specs.taking.Replies.{waits_in}
use Rattle.world_steps.proofs.taking.Taken.{nothing, takes}
use Rattle.world_steps.proofs.taking.taking.take_line.Goals as goal

pub returns-then-not-has_reply : goal.returns-then-not-has_reply
returns-then-not-has_reply c = λ ready z w h.
    let x = c.args.world.now in
    nothing z x w c.args.k ready
    (refused_by waits_in c.has_reply.result _ x.channels.items c.args.k c.has_reply.ensures c.deref.ensures.value c.if-not-has_reply.true) h

pub returns-in-Ok : goal.returns-in-Ok
returns-in-Ok c = λ ready z w h.
    takes z c.args.world.now c.take_front.new.world c.later.new.world w c.args.k c.in-Ok.ensures ready c.later.ensures.rest
    c.later.ensures.moment h

pub returns-in-Err : goal.returns-in-Err
returns-in-Err c = λ ready z w h. memory z _ w _ _ c.in-Err.ensures
