use Rattle.spec_world.specs.Courses.{drain_and_cut}
use Rattle.world_steps.proofs.events.Coming.{as_course, result_as}
use Rattle.drill_command.proofs.settling.Turning.{each_goes, each_over}
use Rattle.drill_command.proofs.settling.settling.+drain_each.Goals as goal

pub returns-then-count-eq0 : goal.returns-then-count-eq0
returns-then-count-eq0 t c = λ z d h.
    as_course z c.args.world.now d _ (each_over (drain_and_cut z) c.args.k c.args.count d c.if-count-eq0.true) h

pub returns-in-Ok : goal.returns-in-Ok
returns-in-Ok t c = λ z d h.
    result_as z c.drain_each.new.world c.drain_each.result _ _ (each_goes (drain_and_cut z) c.args.k c.args.count d c.if-count-eq0.false)
    (c.drain_each.ensures z (drain_and_cut z d c.args.k) (c.in-Ok.ensures z d h))

pub returns-in-Err : goal.returns-in-Err
returns-in-Err t c = λ z d h. c.in-Err.ensures z d h
