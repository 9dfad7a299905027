use Rattle.world_steps.proofs.restarting.renew.Goals as goal

pub returns-in-Ok : goal.returns-in-Ok
returns-in-Ok c = λ users s L records h. c.in-Ok.ensures users s L records h
