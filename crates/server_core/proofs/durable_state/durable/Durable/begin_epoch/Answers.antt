use Rattle.std.proofs.Common.{◌==◌, ◌+◌, sym, ◌∙◌}
use Rattle.spec_exchange.specs.State.{Server}
use Rattle.spec_exchange.specs.Fold.{sweep}
use Rattle.server_core.specs.durable_state.Durable.{DurableShown}
use Rattle.server_core.proofs.durable_state.Choice.{on, off}
use Rattle.server_core.proofs.durable_state.durable.Durable.begin_epoch.Goals as goal

pub returns-then-is_next : goal.returns-then-is_next
returns-then-is_next c = λ s i h. on (λ (u : Server). DurableShown c.set_epoch.new.self u) (c.args.number == s.epoch + 1) _ _
    (sym (c.is_next.ensures s h) ∙ c.if-is_next.true) (c.set_epoch.ensures (sweep s s.entries) (c.sweep.ensures s h))

pub returns-else-is_next : goal.returns-else-is_next
returns-else-is_next c = λ s i h. off (λ (u : Server). DurableShown c.args.self.now u) (c.args.number == s.epoch + 1) _ _
    (sym (c.is_next.ensures s h) ∙ c.if-is_next.false) h
