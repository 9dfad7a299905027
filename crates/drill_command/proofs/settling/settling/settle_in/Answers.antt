use Rattle.spec_world.specs.Courses.{drain_and_cut, drop_orphan, each}
use Rattle.world_steps.proofs.events.Coming.{result_as}
use Rattle.drill_command.proofs.settling.Rounds.{settle_is}
use Rattle.drill_command.proofs.settling.settling.settle_in.Goals as goal

pub returns-in-Ok : goal.returns-in-Ok
returns-in-Ok c = λ z d h. result_as z c.go_rounds.new.world c.go_rounds.result _ _ (settle_is z 256 c.args.most d)
    (c.go_rounds.ensures z (each (drop_orphan z) 0 256 (each (drain_and_cut z) 0 256 d)) (c.in-Ok.ensures z d h))

pub returns-in-Err : goal.returns-in-Err
returns-in-Err c = λ z d h. c.in-Err.ensures z d h
