use Rattle.std.proofs.Common.{sym, ◌∙◌}
use Rattle.server_core.specs.durable_state.Durable.{ranges_behind}
use Rattle.server_core.proofs.durable_state.Locking.{kept_behind, granted_behind, stands_behind}
use Rattle.server_core.proofs.durable_state.durable.Durable.keep_if.Goals as goal

pub returns-then-may : goal.returns-then-may
returns-then-may c = λ s answer e h st. granted_behind c.keep.new.self s c.args.id c.args.index c.args.number answer (sym c.if-may.true ∙ e)
    (c.keep.ensures (ranges_behind s c.args.id answer) h (stands_behind s c.args.id answer st))

pub returns-else-may : goal.returns-else-may
returns-else-may c = λ s answer e h st. kept_behind c.args.self.now s c.args.id c.args.index c.args.number answer (sym c.if-may.false ∙ e) h
