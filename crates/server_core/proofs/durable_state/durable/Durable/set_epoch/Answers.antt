use Rattle.server_core.proofs.durable_state.Shown.{epoch_behind}
use Rattle.server_core.proofs.durable_state.durable.Durable.set_epoch.Goals as goal

pub returns : goal.returns
returns c = λ s h. epoch_behind c.args.self.now c.begin_epoch.new.self s c.args.number h (c.begin_epoch.ensures s h.opens)
