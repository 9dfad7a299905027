use Rattle.std.proofs.Common.{sym, ap, ◌∙◌}
use Rattle.spec_exchange.specs.Table.{is_at}
use Rattle.spec_world.specs.Courses.{drain, finished_after}
use Rattle.world_steps.proofs.events.Coming.{as_course, result_as}
use Rattle.drill_command.proofs.settling.Rounds.{cut_is, drained}
use Rattle.drill_command.proofs.settling.settling.drain_and_cut.Goals as goal

pub returns-in-Ok : goal.returns-in-Ok
returns-in-Ok c = λ z d h.
    let k = c.args.k in
    let new = c.is_making-is_new.ensures ∙ ap (is_at k) (sym h.own.making_is) in
    let shown = c.in-Ok.ensures z d (c.refusals_of-refusals.ensures d.world.values.client h.own.client) h in
    let here = as_course z c.drain_after.new.world _ (drained z d k) (ap (λ b. finished_after z b d (drain z 64 d k)) new) shown in
    result_as z c.cut_hanging.new.world c.cut_hanging.result _ _ (cut_is z d k) (c.cut_hanging.ensures z (drained z d k) here)

pub returns-in-Err : goal.returns-in-Err
returns-in-Err c = λ z d h. c.in-Err.ensures z d (c.refusals_of-refusals.ensures d.world.values.client h.own.client) h
