use Rattle.world_steps.proofs.dialogs.hearing.hear_short.Goals as goal

pub returns-in-Ok : goal.returns-in-Ok
returns-in-Ok c = c.in-Ok.ensures.heard
