use Rattle.std.proofs.Common.{sym, ◌∙◌}
use Rattle.spec_exchange.specs.Commands.{all_lock, all_unlock}
use Rattle.server_core.proofs.durable_state.Choice.{or_first, or_second}
use Rattle.server_core.proofs.durable_state.locks.is_alike.Goals as goal

pub returns-then-all_lock : goal.returns-then-all_lock
returns-then-all_lock c = c.if-all_lock.true ∙ or_first (all_lock c.args.elements.now) (all_unlock c.args.elements.now)
    (sym c.all_lock.ensures ∙ c.if-all_lock.true)

pub returns-else-all_lock : goal.returns-else-all_lock
returns-else-all_lock c = or_second (all_lock c.args.elements.now) (all_unlock c.args.elements.now) c.all_unlock.result
    (sym c.all_lock.ensures ∙ c.if-all_lock.false) c.all_unlock.ensures
