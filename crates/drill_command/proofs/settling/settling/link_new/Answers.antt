use Rattle.std.proofs.Common.{◌≡◌, ℕ, true, sym, ap, ◌∙◌, slice_get, List}
use Rattle.spec_exchange.specs.Schedules.{is_apart, least}
use Rattle.spec_world.specs.Courses.{finished_after, link}
use Rattle.world_ends.specs.declared.sides.Channel.{Channel}
use Rattle.drill_command.specs.settling.Tests.{apart_in}
use Rattle.world_steps.proofs.events.Coming.{as_course, result_as}
use Rattle.drill_command.proofs.settling.Equations.{linked_off, linked_on}
use Rattle.drill_command.proofs.settling.Tested.{apart_is}
use Rattle.drill_command.proofs.settling.Turning.{same_least}
use Rattle.drill_command.proofs.settling.settling.link_new.Goals as goal

pub returns-then-not-is_cut : goal.returns-then-not-is_cut
returns-then-not-is_cut c = λ z d h.
    as_course z c.args.world.now d _
    (sym (linked_off z 256 d (sym (c.is_cut.ensures d.world.values.client h.own.client) ∙ c.if-not-is_cut.true))) h

pub returns-in-Ok : goal.returns-in-Ok
returns-in-Ok c = λ z d h.
    let x = c.args.world.now in
    let client = d.world.values.client in
    let on = sym (c.is_cut.ensures client h.own.client) ∙ c.if-not-is_cut.false in
    let at : c.least_apart-k.result ≡ least (is_apart d.world.values) 0 256 =
    c.least_apart-k.ensures ∙ (ap (λ (v : List Channel). least (λ j. apart_in (slice_get v j)) 0 256) c.deref.ensures.value
    ∙ same_least (λ j. apart_in (slice_get x.channels.items j)) (is_apart d.world.values) (λ j. sym (apart_is z x d.world j h)) 0 256) in
    result_as z c.finish_after.new.world c.finish_after.result _ _
    (ap (λ (k : ℕ). finished_after z true d (link z d k)) at ∙ sym (linked_on z 256 d on))
    (c.finish_after.ensures z d (link z d c.least_apart-k.result) (c.refusals_of-refusals.ensures client h.own.client)
    (c.in-Ok.ensures z d h))

pub returns-in-Err : goal.returns-in-Err
returns-in-Err c = λ z d h. c.in-Err.ensures z d h
