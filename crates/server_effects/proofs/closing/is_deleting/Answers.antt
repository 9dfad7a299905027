use Rattle.std.proofs.Common.{ap, sym, ◌∙◌}
use Rattle.spec_exchange.specs.Commands.{deletes_on_close}
use Rattle.spec_exchange.specs.State as model
use Rattle.server_effects.proofs.closing.is_deleting.Goals as goal

pub returns-in-Some : goal.returns-in-Some
returns-in-Some c = λ s h st. c.deletes_on_close.ensures
    ∙ ap (λ (o : model.Open). deletes_on_close o.options) (sym (c.in-Some.ensures s h.opens).1.opened_is)

pub returns-in-None : goal.returns-in-None
returns-in-None c = λ s h st. absurd (let e = c.in-None.ensures s h.opens in cc)
