use Rattle.server_core.proofs.durable_state.durable.Durable.with_version.Goals as goal

pub returns : goal.returns
returns c = λ s h. c.set_version.ensures s h
