use Rattle.spec_world.specs.Courses.{served_all}
use Rattle.drill_command.proofs.settling.linking.drain_once.Goals as goal

pub returns-in-Ok : goal.returns-in-Ok
returns-in-Ok c = λ z d h. c.take_all.ensures z (served_all z d c.args.k) (c.in-Ok.ensures z d h)

pub returns-in-Err : goal.returns-in-Err
returns-in-Err c = λ z d h. c.in-Err.ensures z d h
