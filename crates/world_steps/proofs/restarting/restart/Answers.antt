use Rattle.world_steps.proofs.Refusing.{memory}
use Rattle.world_steps.proofs.Restarted.{restarted}
use Rattle.world_steps.proofs.restarting.restart.Goals as goal

pub returns-in-Ok : goal.returns-in-Ok
returns-in-Ok c = λ z w h.
    let x = c.args.world.now in
    restarted z x (record x { book = c.restart_server.new.book; channels = c.restart_server.new.channels })
    c.later.new.world w c.in-Ok.ensures
    c.later.ensures.rest c.later.ensures.moment h

pub returns-in-Err : goal.returns-in-Err
returns-in-Err c = λ z w h. memory z _ w _ _ c.in-Err.ensures
