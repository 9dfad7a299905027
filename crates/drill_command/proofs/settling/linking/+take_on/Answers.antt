use Rattle.std.proofs.Common.{sym, ap, ◌∙◌, slice_get, List}
use Rattle.spec_exchange.specs.Network.{Take}
use Rattle.spec_world.specs.Courses.{went}
use Rattle.world_ends.specs.declared.sides.Channel.{Channel}
use Rattle.drill_command.specs.settling.Tests.{taking_in}
use Rattle.world_steps.proofs.events.Coming.{as_course, result_as}
use Rattle.drill_command.proofs.settling.Tested.{taking_is}
use Rattle.drill_command.proofs.settling.Turning.{take_goes, take_over, take_stops}
use Rattle.drill_command.proofs.settling.linking.+take_on.Goals as goal

pub returns-then-most-eq0 : goal.returns-then-most-eq0
returns-then-most-eq0 t c = λ z d h.
    as_course z c.args.world.now d _ (take_over z c.args.most d c.args.k c.if-most-eq0.true) h

pub returns-then-not-may_take : goal.returns-then-not-may_take
returns-then-not-may_take t c = λ z d h.
    let x = c.args.world.now in
    let off = taking_is z x d.world c.args.k h
    ∙ (sym (c.may_take.ensures ∙ ap (λ (v : List Channel). taking_in (slice_get v c.args.k)) c.deref.ensures.value)
    ∙ c.if-not-may_take.true) in
    as_course z x d _ (take_stops z c.args.most d c.args.k off) h

pub returns-in-Ok : goal.returns-in-Ok
returns-in-Ok t c = λ z d h.
    let x = c.args.world.now in
    let on = taking_is z x d.world c.args.k h
    ∙ (sym (c.may_take.ensures ∙ ap (λ (v : List Channel). taking_in (slice_get v c.args.k)) c.deref.ensures.value)
    ∙ c.if-not-may_take.false) in
    result_as z c.take_on.new.world c.take_on.result _ _ (take_goes z c.args.most d c.args.k c.if-most-eq0.false on)
    (c.take_on.ensures z (went z d (Take c.args.k)) (c.in-Ok.ensures z d h))

pub returns-in-Err : goal.returns-in-Err
returns-in-Err t c = λ z d h. c.in-Err.ensures z d h
