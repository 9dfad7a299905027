use Rattle.std.proofs.Common.{sym, ap, ◌∙◌, slice_get, List}
use Rattle.spec_world.specs.Courses.{went_push}
use Rattle.world_ends.specs.declared.sides.Channel.{Channel}
use Rattle.drill_command.proofs.settling.Pushed.{cuts, drains}
use Rattle.drill_command.specs.settling.Tests.{frames_in}
use Rattle.drill_command.proofs.settling.settling.push_round.Goals as goal

pub returns-then-has_frames : goal.returns-then-has_frames
returns-then-has_frames c = λ z d h.
    let k = c.args.k in
    let shown = c.in-Ok.ensures z d h in
    let on = ap (λ (v : List Channel). frames_in (slice_get v k)) (sym c.deref.ensures.value)
    ∙ (sym c.has_frames.ensures ∙ c.if-has_frames.true) in
    drains z c.push_one.new.world c.drain.new.world c.drain.result d k shown on (c.drain.ensures z (went_push z d k) shown)

pub returns-else-has_frames : goal.returns-else-has_frames
returns-else-has_frames c = λ z d h.
    let k = c.args.k in
    let shown = c.in-Ok.ensures z d h in
    let off = ap (λ (v : List Channel). frames_in (slice_get v k)) (sym c.deref.ensures.value)
    ∙ (sym c.has_frames.ensures ∙ c.if-has_frames.false) in
    cuts z c.push_one.new.world c.cut_one.new.world c.cut_one.result d k shown off (c.cut_one.ensures z (went_push z d k) shown)

pub returns-in-Err : goal.returns-in-Err
returns-in-Err c = λ z d h. c.in-Err.ensures z d h
