use Rattle.world_steps.proofs.Refusing.{result_with}
use Rattle.world_steps.proofs.dialogs.turning.hear_by.Goals as goal

pub returns-in-Ok : goal.returns-in-Ok
returns-in-Ok c = λ counted.
    result_with c.turn_by.result (λ u s. record { counted = counted; turn = c.in-Ok.turn; is = c.in-Ok.ensures; turned = s })
    c.turn_by.ensures

pub returns-in-Err : goal.returns-in-Err
returns-in-Err c = λ counted. c.in-Err.ensures
