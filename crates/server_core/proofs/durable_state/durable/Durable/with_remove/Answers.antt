use Rattle.std.proofs.Common.{sym, ◌∙◌}
use Rattle.spec_exchange.specs.State.{Server}
use Rattle.server_core.specs.durable_state.Durable.{DurableShown}
use Rattle.spec_exchange.specs.Files.{remove_file}
use Rattle.spec_exchange.specs.Fold.{may_remove}
use Rattle.server_core.proofs.durable_state.Choice.{off}
use Rattle.server_core.proofs.durable_state.OfFile.{remove_none, remove_shown}
use Rattle.server_core.proofs.durable_state.durable.Durable.with_remove.Goals as goal

pub returns-then-not-is_closed : goal.returns-then-not-is_closed
returns-then-not-is_closed c = λ s origin h. off (λ (u : Server). DurableShown c.args.self.now u)
    (may_remove s c.args.file) (remove_file s c.args.file) s
    (remove_none s c.args.file (sym (c.is_closed.ensures s h) ∙ c.if-not-is_closed.true)) h

pub returns : goal.returns
returns c = λ s origin h. remove_shown c.remove.result c.args.self.now c.remove.new.self s origin c.args.file h
    (sym (c.is_closed.ensures s h) ∙ c.if-not-is_closed.false) c.remove.ensures.done
