use Rattle.std.proofs.Common.{Some, None, sym, ap, ◌∙◌}
use Rattle.spec_exchange.specs.CheckOpen.{is_stale}
use Rattle.store_opens.proofs.open_table.Found.{found}
use Rattle.store_opens.proofs.open_table.table.Opens.is_stale.Goals as goal

pub returns-in-Some : goal.returns-in-Some
returns-in-Some c = λ s h st. c.is_stale.ensures
    ∙ ap (is_stale c.args.n)
    (sym (found c.args.self.now s c.args.id (Some c.in-Some.row.now) h c.in-Some.ensures.value).1.sequence_is)

pub returns-in-None : goal.returns-in-None
returns-in-None c = λ s h st. absurd (let e = found c.args.self.now s c.args.id None h c.in-None.ensures.value in cc)
