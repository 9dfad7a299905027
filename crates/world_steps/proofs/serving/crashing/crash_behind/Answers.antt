use Rattle.world_steps.proofs.serving.Served.{crashed}
use Rattle.world_steps.proofs.Refusing.{memory}
use Rattle.world_steps.proofs.serving.crashing.crash_behind.Goals as goal

pub returns-in-Ok : goal.returns-in-Ok
returns-in-Ok c = λ there full z w h.
    crashed z c.args.world.now c.absorb.new.world c.restart.new.world w c.args.k c.restart.result c.in-Ok.ensures
    (λ u shows. c.restart.ensures z u shows) there full h

pub returns-in-Err : goal.returns-in-Err
returns-in-Err c = λ there full z w h. memory z _ w _ _ c.in-Err.ensures
