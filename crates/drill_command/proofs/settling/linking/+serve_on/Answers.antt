use Rattle.std.proofs.Common.{sym, ap, ◌∙◌, slice_get, List}
use Rattle.spec_exchange.specs.Network.{Serve}
use Rattle.spec_world.specs.Courses.{went}
use Rattle.world_ends.specs.declared.sides.Channel.{Channel}
use Rattle.drill_command.specs.settling.Tests.{serving_in}
use Rattle.world_steps.proofs.events.Coming.{as_course, result_as}
use Rattle.drill_command.proofs.settling.Tested.{serving_is}
use Rattle.drill_command.proofs.settling.Turning.{serve_goes, serve_over, serve_stops}
use Rattle.drill_command.proofs.settling.linking.+serve_on.Goals as goal

pub returns-then-most-eq0 : goal.returns-then-most-eq0
returns-then-most-eq0 t c = λ z d h.
    as_course z c.args.world.now d _ (serve_over z c.args.most d c.args.k c.if-most-eq0.true) h

pub returns-then-not-may_serve : goal.returns-then-not-may_serve
returns-then-not-may_serve t c = λ z d h.
    let x = c.args.world.now in
    let off = serving_is z x d.world c.args.k h
    ∙ (sym (c.may_serve.ensures ∙ ap (λ (v : List Channel). serving_in (slice_get v c.args.k)) c.deref.ensures.value)
    ∙ c.if-not-may_serve.true) in
    as_course z x d _ (serve_stops z c.args.most d c.args.k off) h

pub returns-in-Ok : goal.returns-in-Ok
returns-in-Ok t c = λ z d h.
    let x = c.args.world.now in
    let on = serving_is z x d.world c.args.k h
    ∙ (sym (c.may_serve.ensures ∙ ap (λ (v : List Channel). serving_in (slice_get v c.args.k)) c.deref.ensures.value)
    ∙ c.if-not-may_serve.false) in
    result_as z c.serve_on.new.world c.serve_on.result _ _ (serve_goes z c.args.most d c.args.k c.if-most-eq0.false on)
    (c.serve_on.ensures z (went z d (Serve c.args.k)) (c.in-Ok.ensures z d h))

pub returns-in-Err : goal.returns-in-Err
returns-in-Err t c = λ z d h. c.in-Err.ensures z d h
