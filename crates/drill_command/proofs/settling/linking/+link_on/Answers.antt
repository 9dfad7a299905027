use Rattle.std.proofs.Common.{sym, ap, ◌∙◌, slice_get, List}
use Rattle.spec_exchange.specs.Network.{Serve, Take}
use Rattle.spec_world.specs.Courses.{went}
use Rattle.world_ends.specs.declared.sides.Channel.{Channel}
use Rattle.drill_command.specs.settling.Tests.{linking_in}
use Rattle.world_steps.proofs.events.Coming.{as_course, result_as}
use Rattle.drill_command.proofs.settling.Tested.{linking_is}
use Rattle.drill_command.proofs.settling.Turning.{link_goes, link_over, link_stops}
use Rattle.drill_command.proofs.settling.linking.+link_on.Goals as goal

pub returns-then-turns-eq0 : goal.returns-then-turns-eq0
returns-then-turns-eq0 t c = λ z d h.
    as_course z c.args.world.now d _ (link_over z c.args.turns d c.args.k c.if-turns-eq0.true) h

pub returns-then-not-is_linking : goal.returns-then-not-is_linking
returns-then-not-is_linking t c = λ z d h.
    let x = c.args.world.now in
    let off = linking_is z x d.world c.args.k h
    ∙ (sym (c.is_linking.ensures ∙ ap (λ (v : List Channel). linking_in (slice_get v c.args.k)) c.deref.ensures.value)
    ∙ c.if-not-is_linking.true) in
    as_course z x d _ (link_stops z c.args.turns d c.args.k c.if-turns-eq0.false off) h

pub returns-in-Ok : goal.returns-in-Ok
returns-in-Ok t c = λ z d h.
    let x = c.args.world.now in
    let on = linking_is z x d.world c.args.k h
    ∙ (sym (c.is_linking.ensures ∙ ap (λ (v : List Channel). linking_in (slice_get v c.args.k)) c.deref.ensures.value)
    ∙ c.if-not-is_linking.false) in
    result_as z c.link_on.new.world c.link_on.result _ _ (link_goes z c.args.turns d c.args.k c.if-turns-eq0.false on)
    (c.link_on.ensures z (went z (went z d (Serve c.args.k)) (Take c.args.k)) (c.in-Ok.ensures z d h))

pub returns-in-Err : goal.returns-in-Err
returns-in-Err t c = λ z d h. c.in-Err.ensures z d h
