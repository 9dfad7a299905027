use Rattle.std.proofs.Common.{sym, ap, ◌∙◌, slice_get, List}
use Rattle.world_ends.specs.declared.sides.Channel.{Channel}
use Rattle.drill_command.specs.settling.Tests.{hanging_in}
use Rattle.world_steps.proofs.events.Coming.{as_course, result_as}
use Rattle.drill_command.proofs.settling.Equations.{went_off, went_on}
use Rattle.drill_command.proofs.settling.Tested.{hanging_is}
use Rattle.drill_command.proofs.settling.settling.cut_hanging.Goals as goal

pub returns-then-hangs : goal.returns-then-hangs
returns-then-hangs c = λ z d h.
    let k = c.args.k in
    let x = c.args.world.now in
    let on = hanging_is z x d.world k h
    ∙ (sym (c.hangs.ensures ∙ ap (λ (v : List Channel). hanging_in (slice_get v k)) c.deref.ensures.value) ∙ c.if-hangs.true) in
    result_as z c.cut_one.new.world c.cut_one.result _ _ (sym (went_on z _ d _ on)) (c.cut_one.ensures z d h)

pub returns : goal.returns
returns c = λ z d h.
    let k = c.args.k in
    let x = c.args.world.now in
    let off = hanging_is z x d.world k h
    ∙ (sym (c.hangs.ensures ∙ ap (λ (v : List Channel). hanging_in (slice_get v k)) c.deref.ensures.value) ∙ c.if-hangs.false) in
    as_course z x d _ (sym (went_off z _ d _ off)) h
