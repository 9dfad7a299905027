use Rattle.spec_exchange.specs.Network.{Serve}
use Rattle.spec_world.specs.Courses.{went}
use Rattle.drill_command.proofs.settling.linking.turn.Goals as goal

pub returns-in-Ok : goal.returns-in-Ok
returns-in-Ok c = λ z d h. c.take_one.ensures z (went z d (Serve c.args.k)) (c.in-Ok.ensures z d h)

pub returns-in-Err : goal.returns-in-Err
returns-in-Err c = λ z d h. c.in-Err.ensures z d h
