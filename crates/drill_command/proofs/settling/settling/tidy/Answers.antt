use Rattle.world_steps.proofs.events.Coming.{result_as}
use Rattle.drill_command.proofs.settling.Rounds.{tidy_is}
use Rattle.drill_command.proofs.settling.settling.tidy.Goals as goal

pub returns-in-Ok : goal.returns-in-Ok
returns-in-Ok c = λ z d h.
    result_as z c.drop_orphan.new.world c.drop_orphan.result _ _ (tidy_is z d c.args.k) (c.drop_orphan.ensures z _ (c.in-Ok.ensures z d h))

pub returns-in-Err : goal.returns-in-Err
returns-in-Err c = λ z d h. c.in-Err.ensures z d h
