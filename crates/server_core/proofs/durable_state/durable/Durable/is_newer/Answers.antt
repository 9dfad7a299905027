use Rattle.std.proofs.Common.{◌∙◌}
use Rattle.server_core.proofs.durable_state.Choice.{eq_off}
use Rattle.server_core.proofs.durable_state.Shown.{newer_on, newer_off}
use Rattle.server_core.proofs.durable_state.durable.Durable.is_newer.Goals as goal

pub returns-then-number-eq2 : goal.returns-then-number-eq2
returns-then-number-eq2 c = λ s h. newer_on c.args.number c.args.self.now.version s.version c.if-number-eq2.true h.version_is

pub returns-else-number-eq2 : goal.returns-else-number-eq2
returns-else-number-eq2 c = λ s h. eq_off c.args.number 2 c.if-number-eq2.false ∙ newer_off c.args.number s.version c.if-number-eq2.false
