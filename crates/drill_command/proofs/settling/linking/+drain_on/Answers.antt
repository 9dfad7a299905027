use Rattle.std.proofs.Common.{sym, ap, ◌∙◌, slice_get, List}
use Rattle.spec_world.specs.Courses.{served_all, taken_all}
use Rattle.world_ends.specs.declared.sides.Channel.{Channel}
use Rattle.drill_command.specs.settling.Tests.{more_in}
use Rattle.world_steps.proofs.events.Coming.{as_course, result_as}
use Rattle.drill_command.proofs.settling.Tested.{more_is}
use Rattle.drill_command.proofs.settling.Turning.{drain_goes, drain_over, drain_stops}
use Rattle.drill_command.proofs.settling.linking.+drain_on.Goals as goal

pub returns-then-turns-eq0 : goal.returns-then-turns-eq0
returns-then-turns-eq0 t c = λ z d h.
    as_course z c.args.world.now d _ (drain_over z c.args.turns d c.args.k c.if-turns-eq0.true) h

pub returns-then-not-has_more : goal.returns-then-not-has_more
returns-then-not-has_more t c = λ z d h.
    let k = c.args.k in
    let x = c.drain_once.new.world in
    let e = taken_all z (served_all z d k) k in
    let shown = c.in-Ok.ensures z d h in
    let off = more_is z x e.world k shown
    ∙ (sym (c.has_more.ensures ∙ ap (λ (v : List Channel). more_in (slice_get v k)) c.deref.ensures.value) ∙ c.if-not-has_more.true) in
    as_course z x e _ (drain_stops z c.args.turns d k c.if-turns-eq0.false off) shown

pub returns-else-not-has_more : goal.returns-else-not-has_more
returns-else-not-has_more t c = λ z d h.
    let k = c.args.k in
    let x = c.drain_once.new.world in
    let e = taken_all z (served_all z d k) k in
    let shown = c.in-Ok.ensures z d h in
    let on = more_is z x e.world k shown
    ∙ (sym (c.has_more.ensures ∙ ap (λ (v : List Channel). more_in (slice_get v k)) c.deref.ensures.value) ∙ c.if-not-has_more.false) in
    result_as z c.drain_on.new.world c.drain_on.result _ _ (drain_goes z c.args.turns d k c.if-turns-eq0.false on)
    (c.drain_on.ensures z e shown)

pub returns-in-Err : goal.returns-in-Err
returns-in-Err t c = λ z d h. c.in-Err.ensures z d h
