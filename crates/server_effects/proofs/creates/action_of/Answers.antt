use Rattle.std.proofs.Common.{ap, sym}
use Rattle.spec_exchange.specs.State as model
use Rattle.server_effects.proofs.creates.action_of.Goals as goal

pub returns-in-Some : goal.returns-in-Some
returns-in-Some c = λ s h st. ap (λ (o : model.Open). o.action) (sym (c.in-Some.ensures s h.opens).1.opened_is)

pub returns-in-None : goal.returns-in-None
returns-in-None c = λ s h st. absurd (let e = c.in-None.ensures s h.opens in cc)
