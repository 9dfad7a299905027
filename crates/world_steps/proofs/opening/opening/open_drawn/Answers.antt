use Rattle.world_steps.proofs.Refusing.{memory}
use Rattle.world_steps.proofs.opening.opening.open_drawn.Goals as goal

pub returns-in-Ok : goal.returns-in-Ok
returns-in-Ok c = λ due. c.open_by.ensures due c.requires c.in-Ok.ensures

pub returns-in-Err : goal.returns-in-Err
returns-in-Err c = λ due z w h. memory z _ w _ _ c.in-Err.ensures
