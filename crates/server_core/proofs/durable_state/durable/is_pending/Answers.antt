use Rattle.std.proofs.Common.{sym, ◌∙◌}
use Rattle.spec_exchange.specs.Files.{exists}
use Rattle.server_core.proofs.durable_state.Choice.{and_on, first_off}
use Rattle.server_core.proofs.durable_state.Shown.{marked_is}
use Rattle.server_core.proofs.durable_state.durable.is_pending.Goals as goal

pub returns-then-exists : goal.returns-then-exists
returns-then-exists c = λ s h.
    let e = sym (c.exists.ensures s h) ∙ c.if-exists.true in
    marked_is c.info.result s c.args.file (c.info.ensures s h e) ∙ and_on (exists s c.args.file) (s.delete_pending c.args.file) e

pub returns-else-exists : goal.returns-else-exists
returns-else-exists c = λ s h. c.if-exists.false ∙ sym (first_off (exists s c.args.file) (s.delete_pending c.args.file)
    (sym (c.exists.ensures s h) ∙ c.if-exists.false))
