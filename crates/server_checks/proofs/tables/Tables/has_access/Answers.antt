use Rattle.std.proofs.Common.{ap, sym, ◌∙◌}
use Rattle.spec_exchange.specs.Commands.{has_bit}
use Rattle.spec_exchange.specs.State as model
use Rattle.server_checks.proofs.tables.Tables.has_access.Goals as goal

pub returns-in-Some : goal.returns-in-Some
returns-in-Some c = λ s t st. c.has_bit.ensures
    ∙ ap (λ (o : model.Open). has_bit o.access c.args.bit) (sym (c.in-Some.ensures s t.opens).1.opened_is)

pub returns-in-None : goal.returns-in-None
returns-in-None c = λ s t st. absurd (let e = c.in-None.ensures s t.opens in cc)
