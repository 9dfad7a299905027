use Rattle.std.proofs.Common.{not, sym, ap, ◌∙◌, Bool}
use Rattle.spec_exchange.specs.Files.{exists}
use Rattle.spec_exchange.specs.Opens.{file_has_open}
use Rattle.server_core.proofs.durable_state.Choice.{and_on, first_off}
use Rattle.server_core.proofs.durable_state.durable.Durable.is_closed.Goals as goal

pub returns-then-exists : goal.returns-then-exists
returns-then-exists c = λ s h. ap (λ (b : Bool). not b) (c.has_open.ensures s h.opens) ∙ and_on (exists s c.args.file)
    (not (file_has_open s c.args.file))
    (sym (c.exists.ensures s h.files) ∙ c.if-exists.true)

pub returns-else-exists : goal.returns-else-exists
returns-else-exists c = λ s h. c.if-exists.false
    ∙ sym (first_off (exists s c.args.file) (not (file_has_open s c.args.file)) (sym (c.exists.ensures s h.files)
    ∙ c.if-exists.false))
