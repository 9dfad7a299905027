use Rattle.std.proofs.Common.{sym, ◌∙◌}
use Rattle.spec_exchange.specs.State.{Server}
use Rattle.server_core.specs.durable_state.Durable.{DurableShown}
use Rattle.spec_exchange.specs.CheckOpen.{target_of}
use Rattle.spec_exchange.specs.Files.{find, rename_file}
use Rattle.spec_exchange.specs.Fold.{may_rename}
use Rattle.server_core.proofs.durable_state.Choice.{off}
use Rattle.server_core.proofs.durable_state.OfFile.{rename_none, rename_shown}
use Rattle.server_core.proofs.durable_state.durable.Durable.rename_recorded.Goals as goal

pub returns-then-not-may_take : goal.returns-then-not-may_take
returns-then-not-may_take c = λ s origin h. off (λ (u : Server). DurableShown c.args.self.now u)
    (may_rename s c.args.file c.args.replaced c.args.path.now)
    (rename_file s c.args.file (target_of c.args.file (find s c.args.path.now)) c.args.path.now) s
    (rename_none s c.args.file c.args.replaced c.args.path.now (sym (c.may_take.ensures s h) ∙ c.if-not-may_take.true)) h

pub returns : goal.returns
returns c = λ s origin h. rename_shown c.rename.result c.unless_memory.result c.args.self.now c.rename.new.self s origin
    c.args.file c.args.replaced
    c.args.path.now h (sym (c.may_take.ensures s h) ∙ c.if-not-may_take.false) c.rename.ensures.done c.unless_memory.ensures
