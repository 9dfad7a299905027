use Rattle.world_steps.proofs.Refusing.{memory}
use Rattle.world_steps.proofs.dialogs.Talked.{talked}
use Rattle.world_steps.proofs.dialogs.turning.take_open.Goals as goal

pub returns-in-Ok : goal.returns-in-Ok
returns-in-Ok c = λ due z w h.
    talked z c.args.world.now w c.args.k h c.take_there.new.world c.in-Ok.ensures c.later.new.world c.later.ensures.rest
    c.later.ensures.moment

pub returns-in-Err : goal.returns-in-Err
returns-in-Err c = λ due z w h. memory z _ w _ _ c.in-Err.ensures
