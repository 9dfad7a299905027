use Rattle.spec_world.specs.Courses.{tidy}
use Rattle.world_steps.proofs.events.Coming.{as_course, result_as}
use Rattle.drill_command.proofs.settling.Turning.{each_goes, each_over}
use Rattle.drill_command.proofs.settling.settling.+tidy_each.Goals as goal

pub returns-then-count-eq0 : goal.returns-then-count-eq0
returns-then-count-eq0 t c = λ z d h.
    as_course z c.args.world.now d _ (each_over (tidy z) c.args.k c.args.count d c.if-count-eq0.true) h

pub returns-in-Ok : goal.returns-in-Ok
returns-in-Ok t c = λ z d h.
    result_as z c.tidy_each.new.world c.tidy_each.result _ _ (each_goes (tidy z) c.args.k c.args.count d c.if-count-eq0.false)
    (c.tidy_each.ensures z (tidy z d c.args.k) (c.in-Ok.ensures z d h))

pub returns-in-Err : goal.returns-in-Err
returns-in-Err t c = λ z d h. c.in-Err.ensures z d h
