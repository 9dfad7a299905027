use Rattle.world_steps.proofs.Refusing.{memory}
use Rattle.world_steps.proofs.Submitted.{submits}
use Rattle.world_steps.proofs.submitting.submit.Goals as goal

pub returns-in-Ok : goal.returns-in-Ok
returns-in-Ok c = λ z w h.
    let x = c.args.world.now in
    submits z x (record x { client = c.take_in.new.client; places = c.take_in.new.places }) c.later.new.world w c.args.number c.args.kind
    c.in-Ok.ensures c.later.ensures.rest c.later.ensures.moment h

pub returns-in-Err : goal.returns-in-Err
returns-in-Err c = λ z w h. memory z _ w _ _ c.in-Err.ensures
