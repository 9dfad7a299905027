use Rattle.spec_exchange.specs.Fold.{sweep}
use Rattle.server_core.proofs.durable_state.Swept.{swept_shown}
use Rattle.server_core.proofs.durable_state.durable.Durable.sweep.Goals as goal

pub returns : goal.returns
returns c = λ s h. c.forget_unmarked.ensures (sweep s s.entries) (swept_shown c.args.self.now c.sweep_files.new.tree s h
    (c.sweep_files.ensures.swept s h.files h.opens) c.sweep_files.ensures.ordered)
