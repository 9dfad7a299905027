use Rattle.spec_world.specs.Courses.{linked, ready_round}
use Rattle.drill_command.proofs.settling.settling.round.Goals as goal

pub returns-in-Ok : goal.returns-in-Ok
returns-in-Ok c = λ z d h. c.tidy_each.ensures z (ready_round z 256 (linked z 256 d)) (c.in-Ok.ensures z d h)

pub returns-in-Err : goal.returns-in-Err
returns-in-Err c = λ z d h. c.in-Err.ensures z d h
