use Rattle.spec_exchange.specs.Network.{Open}
use Rattle.spec_world.specs.Courses.{went}
use Rattle.world_steps.proofs.events.Coming.{result_as}
use Rattle.drill_command.proofs.settling.Rounds.{linked_as}
use Rattle.drill_command.proofs.settling.linking.link_in.Goals as goal

pub returns-in-Ok : goal.returns-in-Ok
returns-in-Ok c = λ z d h.
    result_as z c.link_on.new.world c.link_on.result _ _ (linked_as z d c.args.k)
    (c.link_on.ensures z (went z d (Open c.args.k)) (c.in-Ok.ensures z d h))

pub returns-in-Err : goal.returns-in-Err
returns-in-Err c = λ z d h. c.in-Err.ensures z d h
