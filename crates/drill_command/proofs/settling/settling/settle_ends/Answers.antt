use Rattle.spec_world.specs.Courses.{drain_and_cut, each}
use Rattle.drill_command.proofs.settling.settling.settle_ends.Goals as goal

pub returns-in-Ok : goal.returns-in-Ok
returns-in-Ok c = λ z d h. c.drop_each.ensures z (each (drain_and_cut z) 0 256 d) (c.in-Ok.ensures z d h)

pub returns-in-Err : goal.returns-in-Err
returns-in-Err c = λ z d h. c.in-Err.ensures z d h
