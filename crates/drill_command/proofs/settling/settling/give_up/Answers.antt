use Rattle.drill_command.proofs.settling.Rounds.{noted_finish}
use Rattle.drill_command.proofs.settling.settling.give_up.Goals as goal

pub returns-in-Ok : goal.returns-in-Ok
returns-in-Ok c = λ z w h.
    noted_finish z c.finish.new.world c.keep_finish.new.world c.keep_finish.result _ (c.in-Ok.ensures z w h) c.keep_finish.ensures

pub returns-in-Err : goal.returns-in-Err
returns-in-Err c = λ z d h. c.in-Err.ensures z d h
