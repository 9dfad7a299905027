use Rattle.world_steps.proofs.events.stepping.step.Goals as goal

pub returns-then-is_watched : goal.returns-then-is_watched
returns-then-is_watched c = c.step_watched.ensures

pub returns : goal.returns
returns c = c.meet.ensures
