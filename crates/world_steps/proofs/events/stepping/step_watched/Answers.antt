use Rattle.world_steps.proofs.events.Watched.{noted_step, refused_step}
use Rattle.world_steps.proofs.events.stepping.step_watched.Goals as goal

pub returns-in-Ok : goal.returns-in-Ok
returns-in-Ok c =
    noted_step c.args.world.now c.begin_step-step.new.world c.meet.new.world _ c.args.event c.note.result
    c.begin_step-step.ensures c.in-Ok.ensures c.note.ensures

pub returns-in-Err : goal.returns-in-Err
returns-in-Err c =
    refused_step c.args.world.now c.begin_step-step.new.world c.meet.new.world c.args.event c.in-Err.why
    c.begin_step-step.ensures c.in-Err.ensures
