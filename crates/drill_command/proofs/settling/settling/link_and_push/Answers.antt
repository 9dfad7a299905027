use Rattle.spec_world.specs.Courses.{linked}
use Rattle.drill_command.proofs.settling.settling.link_and_push.Goals as goal

pub returns-in-Ok : goal.returns-in-Ok
returns-in-Ok c = λ z d h. c.push_ready.ensures z (linked z 256 d) (c.in-Ok.ensures z d h)

pub returns-in-Err : goal.returns-in-Err
returns-in-Err c = λ z d h. c.in-Err.ensures z d h
