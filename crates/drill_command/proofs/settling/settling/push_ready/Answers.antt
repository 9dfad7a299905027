use Rattle.std.proofs.Common.{◌≡◌, ℕ, sym, ap, ◌∙◌, slice_get, List}
use Rattle.spec_exchange.specs.Schedules.{least}
use Rattle.spec_world.specs.Courses.{pushed_round}
use Rattle.world_ends.specs.Tests.{readied_in}
use Rattle.world_ends.specs.declared.sides.Channel.{Channel}
use Rattle.world_steps.proofs.events.Coming.{as_course, result_as}
use Rattle.drill_command.proofs.settling.Equations.{ready_off, ready_on}
use Rattle.drill_command.proofs.settling.Tested.{readied}
use Rattle.drill_command.proofs.settling.Turning.{same_least}
use Rattle.drill_command.proofs.settling.settling.push_ready.Goals as goal

pub returns-then-is_cut : goal.returns-then-is_cut
returns-then-is_cut c = λ z d h.
    as_course z c.args.world.now d _
    (sym (ready_on z 256 d (sym (c.is_cut.ensures d.world.values.client h.own.client) ∙ c.if-is_cut.true))) h

pub returns : goal.returns
returns c = λ z d h.
    let x = c.args.world.now in
    let client = d.world.values.client in
    let off = sym (c.is_cut.ensures client h.own.client) ∙ c.if-is_cut.false in
    let at : c.least_ready-k.result ≡ least client.ready 0 256 =
    c.least_ready-k.ensures ∙ (ap (λ (v : List Channel). least (λ j. readied_in (slice_get v j)) 0 256) c.deref.ensures.value
    ∙ same_least (λ j. readied_in (slice_get x.channels.items j)) client.ready (λ j. sym (readied z x d.world j h)) 0 256) in
    result_as z c.push_round.new.world c.push_round.result _ _
    (ap (λ (k : ℕ). pushed_round z d k) at ∙ sym (ready_off z 256 d off)) (c.push_round.ensures z d h)
