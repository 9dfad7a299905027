use Rattle.spec_exchange.specs.Network.{Open}
use Rattle.spec_world.specs.Courses.{went}
use Rattle.drill_command.proofs.settling.Rounds.{links}
use Rattle.drill_command.proofs.settling.linking.link.Goals as goal

pub returns-in-Ok : goal.returns-in-Ok
returns-in-Ok c = λ z d h.
    let met = c.in-Ok.ensures z d.world h in
    links z c.step.new.world c.link_on.new.world c.link_on.result d c.args.k met.0 met.1 (c.link_on.ensures z (went z d (Open c.args.k)))

pub returns-in-Err : goal.returns-in-Err
returns-in-Err c = λ z d h. c.in-Err.ensures z d.world h
