use Rattle.std.proofs.Common.{ap, sym}
use Rattle.spec_exchange.specs.State as model
use Rattle.server_checks.proofs.tables.Tables.is_persistent.Goals as goal

pub returns-in-Some : goal.returns-in-Some
returns-in-Some c = λ s t st. ap (λ (o : model.Open). o.persistent) (sym (c.in-Some.ensures s t.opens).1.opened_is)

pub returns-in-None : goal.returns-in-None
returns-in-None c = λ s t st. absurd (let e = c.in-None.ensures s t.opens in cc)
