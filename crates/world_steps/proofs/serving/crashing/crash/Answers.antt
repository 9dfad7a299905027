use Rattle.std.proofs.Common.{Bool, sym, subst}
use Rattle.spec_exchange.specs.Network.{Crash}
use Rattle.spec_world.specs.Events.{Plain}
use Rattle.world_ends.specs.Tests.{served_in}
use Rattle.world_steps.specs.serving.Fronted.{fronted_in}
use Rattle.world_steps.proofs.serving.Served.{crashed_bare, not_there, nothing_there}
use Rattle.world_steps.specs.Steps.{StepsAs}
use Rattle.world_steps.proofs.Refusing.{passed_by, refused_by}
use Rattle.world_steps.proofs.serving.crashing.crash.Goals as goal

pub returns-then-not-is_served : goal.returns-then-not-is_served
returns-then-not-is_served c = λ z w h.
    let x = c.args.world.now in
    not_there z x w c.args.k
    (refused_by served_in c.is_served.result _ x.channels.items c.args.k c.is_served.ensures c.deref.ensures.value
    c.if-not-is_served.true) h

pub returns-then-not-has_front : goal.returns-then-not-has_front
returns-then-not-has_front c = λ z w h.
    let x = c.args.world.now in
    nothing_there z x w c.args.k
    (passed_by served_in c.is_served.result _ x.channels.items c.args.k c.is_served.ensures c.deref.ensures.value c.if-not-is_served.false)
    (refused_by fronted_in c.has_front.result _ x.channels.items c.args.k c.has_front.ensures c.deref-2.ensures.value
    c.if-not-has_front.true) h

pub returns-then-kept : goal.returns-then-kept
returns-then-kept c = λ z w h.
    let x = c.args.world.now in
    subst (λ (b : Bool). StepsAs z w (Plain (Crash c.args.k b)) c.crash_behind.new.world c.crash_behind.result) (sym c.if-kept.true)
    (c.crash_behind.ensures
    (passed_by served_in c.is_served.result _ x.channels.items c.args.k c.is_served.ensures c.deref.ensures.value c.if-not-is_served.false)
    (passed_by fronted_in c.has_front.result _ x.channels.items c.args.k c.has_front.ensures c.deref-2.ensures.value
    c.if-not-has_front.false)
    z w h)

pub returns : goal.returns
returns c = λ z w h.
    let x = c.args.world.now in
    subst (λ (b : Bool). StepsAs z w (Plain (Crash c.args.k b)) c.restart.new.world c.restart.result) (sym c.if-kept.false)
    (crashed_bare z x c.restart.new.world w c.args.k c.restart.result (c.restart.ensures z w h)
    (passed_by served_in c.is_served.result _ x.channels.items c.args.k c.is_served.ensures c.deref.ensures.value c.if-not-is_served.false)
    (passed_by fronted_in c.has_front.result _ x.channels.items c.args.k c.has_front.ensures c.deref-2.ensures.value
    c.if-not-has_front.false) h)
