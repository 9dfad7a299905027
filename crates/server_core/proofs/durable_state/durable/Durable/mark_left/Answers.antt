use Rattle.std.proofs.Common.{true, sym, ◌∙◌}
use Rattle.spec_exchange.specs.State.{Server}
use Rattle.server_core.specs.durable_state.Durable.{DurableShown}
use Rattle.spec_exchange.specs.Commands.{deletes_on_close}
use Rattle.spec_exchange.specs.Files.{set_delete_pending}
use Rattle.server_core.proofs.durable_state.Choice.{on, off}
use Rattle.server_core.proofs.durable_state.durable.Durable.mark_left.Goals as goal

pub returns-then-not-deletes_on_close : goal.returns-then-not-deletes_on_close
returns-then-not-deletes_on_close c = λ s h. off (λ (u : Server). DurableShown c.args.self.now u) (deletes_on_close c.args.options)
    (set_delete_pending s c.args.file true) s (sym c.deletes_on_close.ensures ∙ c.if-not-deletes_on_close.true) h

pub returns-in-Ok : goal.returns-in-Ok
returns-in-Ok c = λ s h. on (λ (u : Server). DurableShown c.mark.new.self u) (deletes_on_close c.args.options)
    (set_delete_pending s c.args.file true) s (sym c.deletes_on_close.ensures ∙ c.if-not-deletes_on_close.false) (c.in-Ok.ensures s h)
