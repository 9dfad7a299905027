use Rattle.world_steps.proofs.serving.crashing.shut.Goals as goal

pub returns : goal.returns
returns c = c.close_server.ensures
