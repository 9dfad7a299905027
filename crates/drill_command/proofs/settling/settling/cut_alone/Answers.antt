use Rattle.std.proofs.Common.{sym, ap, ◌∙◌, slice_get, List}
use Rattle.world_ends.specs.declared.sides.Channel.{Channel}
use Rattle.drill_command.specs.settling.Tests.{alone_in}
use Rattle.world_steps.proofs.events.Coming.{as_course, result_as}
use Rattle.drill_command.proofs.settling.Equations.{went_off, went_on}
use Rattle.drill_command.proofs.settling.Tested.{alone_is}
use Rattle.drill_command.proofs.settling.settling.cut_alone.Goals as goal

pub returns-then-is_alone : goal.returns-then-is_alone
returns-then-is_alone c = λ z d h.
    let k = c.args.k in
    let x = c.args.world.now in
    let on = alone_is z x d.world k h
    ∙ (sym (c.is_alone.ensures ∙ ap (λ (v : List Channel). alone_in (slice_get v k)) c.deref.ensures.value) ∙ c.if-is_alone.true) in
    result_as z c.cut_one.new.world c.cut_one.result _ _ (sym (went_on z _ d _ on)) (c.cut_one.ensures z d h)

pub returns : goal.returns
returns c = λ z d h.
    let k = c.args.k in
    let x = c.args.world.now in
    let off = alone_is z x d.world k h
    ∙ (sym (c.is_alone.ensures ∙ ap (λ (v : List Channel). alone_in (slice_get v k)) c.deref.ensures.value) ∙ c.if-is_alone.false) in
    as_course z x d _ (sym (went_off z _ d _ off)) h
