use Rattle.std.proofs.Common.{◌∙◌, arith}
use Rattle.server_core.proofs.durable_state.Choice.{lt_off}
use Rattle.server_core.proofs.durable_state.Shown.{next_is, never_next}
use Rattle.server_core.proofs.durable_state.durable.Durable.is_next.Goals as goal

pub returns-then-number-gt0 : goal.returns-then-number-gt0
returns-then-number-gt0 c = λ s h. next_is c.args.number c.args.self.now.epoch s.epoch (omega arith) h.epoch_is

pub returns-else-number-gt0 : goal.returns-else-number-gt0
returns-else-number-gt0 c = λ s h. lt_off 0 c.args.number (omega arith) ∙ never_next c.args.number s.epoch (omega arith)
