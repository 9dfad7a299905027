use Rattle.std.proofs.Common.{sym, ap, ◌∙◌, slice_get, List}
use Rattle.world_ends.specs.declared.sides.Channel.{Channel}
use Rattle.drill_command.specs.settling.Tests.{orphan_in}
use Rattle.world_steps.proofs.events.Coming.{as_course, result_as}
use Rattle.drill_command.proofs.settling.Equations.{went_off, went_on}
use Rattle.drill_command.proofs.settling.Tested.{orphan_is}
use Rattle.drill_command.proofs.settling.Rounds.{drop_is}
use Rattle.drill_command.proofs.settling.settling.drop_orphan.Goals as goal

pub returns-then-is_orphan : goal.returns-then-is_orphan
returns-then-is_orphan c = λ z d h.
    let k = c.args.k in
    let x = c.args.world.now in
    let on = orphan_is z x d.world k h
    ∙ (sym (c.is_orphan.ensures ∙ ap (λ (v : List Channel). orphan_in (slice_get v k)) c.deref.ensures.value) ∙ c.if-is_orphan.true) in
    result_as z c.drop_one.new.world c.drop_one.result _ _ (sym (went_on z _ d _ on) ∙ drop_is z d k) (c.drop_one.ensures z d h)

pub returns : goal.returns
returns c = λ z d h.
    let k = c.args.k in
    let x = c.args.world.now in
    let off = orphan_is z x d.world k h
    ∙ (sym (c.is_orphan.ensures ∙ ap (λ (v : List Channel). orphan_in (slice_get v k)) c.deref.ensures.value) ∙ c.if-is_orphan.false) in
    as_course z x d _ (sym (went_off z _ d _ off) ∙ drop_is z d k) h
