use Rattle.server_core.proofs.durable_state.creates.turned_away.Goals as goal

pub returns-in-Status : goal.returns-in-Status
returns-in-Status c = λ e. let k = c.in-Status.is in cc
