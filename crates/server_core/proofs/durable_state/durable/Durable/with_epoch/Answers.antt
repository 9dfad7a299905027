use Rattle.server_core.proofs.durable_state.durable.Durable.with_epoch.Goals as goal

pub returns : goal.returns
returns c = λ s i h. c.begin_epoch.ensures s i h
