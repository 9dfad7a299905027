use Rattle.std.proofs.Common.{ap, sym, Some, None, ◌&&◌, if◌then◌else◌, ◌∙◌}
use Rattle.spec_exchange.specs.State as model
use Rattle.server_effects.proofs.creates.timeout_of.Goals as goal

pub returns-in-Some : goal.returns-in-Some
returns-in-Some c = λ s h st. c.row_timeout.ensures
    ∙ ap (λ (o : model.Open). if o.persistent && c.args.is_asked then Some o.timeout else None)
    (sym (c.in-Some.ensures s h.opens).1.opened_is)

pub returns-in-None : goal.returns-in-None
returns-in-None c = λ s h st. absurd (let e = c.in-None.ensures s h.opens in cc)
