use Rattle.spec_world.specs.Courses.{drain}
use Rattle.drill_command.proofs.settling.settling.drain_after.Goals as goal

pub returns-in-Ok : goal.returns-in-Ok
returns-in-Ok c = λ z d e h. c.finish_after.ensures z d (drain z 64 d c.args.k) e (c.in-Ok.ensures z d h)

pub returns-in-Err : goal.returns-in-Err
returns-in-Err c = λ z d e h. c.in-Err.ensures z d h
