use Rattle.world_ends.specs.Tests.{served_in}
use Rattle.world_steps.specs.serving.Fronted.{fronted_in}
use Rattle.world_steps.proofs.serving.Served.{not_there, nothing_there, served_result}
use Rattle.world_steps.proofs.Refusing.{memory, passed_by, refused_by}
use Rattle.world_steps.proofs.serving.serving.serve.Goals as goal

pub returns-then-not-is_served : goal.returns-then-not-is_served
returns-then-not-is_served c = λ z w h.
    let x = c.args.world.now in
    not_there z x w c.args.k
    (refused_by served_in c.is_served.result _ x.channels.items c.args.k c.is_served.ensures c.deref.ensures.value
    c.if-not-is_served.true) h

pub returns-then-not-has_front : goal.returns-then-not-has_front
returns-then-not-has_front c = λ z w h.
    let x = c.args.world.now in
    nothing_there z x w c.args.k
    (passed_by served_in c.is_served.result _ x.channels.items c.args.k c.is_served.ensures c.deref.ensures.value c.if-not-is_served.false)
    (refused_by fronted_in c.has_front.result _ x.channels.items c.args.k c.has_front.ensures c.deref-2.ensures.value
    c.if-not-has_front.true) h

pub returns-in-Ok : goal.returns-in-Ok
returns-in-Ok c = λ z w h.
    let x = c.args.world.now in
    served_result z x c.take_front.new.world c.answer.new.world w c.args.k c.in-Ok.reply c.answer.result c.in-Ok.ensures c.answer.ensures
    (passed_by served_in c.is_served.result _ x.channels.items c.args.k c.is_served.ensures c.deref.ensures.value c.if-not-is_served.false)
    (passed_by fronted_in c.has_front.result _ x.channels.items c.args.k c.has_front.ensures c.deref-2.ensures.value
    c.if-not-has_front.false) h

pub returns-in-Err : goal.returns-in-Err
returns-in-Err c = λ z w h. memory z _ w _ _ c.in-Err.ensures
