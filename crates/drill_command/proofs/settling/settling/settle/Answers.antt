use Rattle.std.proofs.Common.{ℕ, ap}
use Rattle.spec_world.specs.Courses.{settle_below}
use Rattle.world_steps.proofs.events.Coming.{result_as}
use Rattle.drill_command.proofs.settling.settling.settle.Goals as goal

pub returns-in-Ok : goal.returns-in-Ok
returns-in-Ok c = λ z d h.
    result_as z c.settle_in.new.world c.settle_in.result _ _
    (ap (λ (n : ℕ). settle_below z 256 n d) (c.in-Ok.ensures d.world.values.client h.own.client)) (c.settle_in.ensures z d h)

pub returns-in-Err : goal.returns-in-Err
returns-in-Err c = λ z d h. c.in-Err.ensures
