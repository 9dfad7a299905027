use Rattle.std.proofs.Common.{vec_len, sym, ◌∙◌, eqb-true, arith}
use Rattle.store_opens.proofs.open_table.DatedLemmas.{open_dated, dated_empty, none_waits}
use Rattle.store_opens.proofs.open_table.table.Opens.date.Goals as goal

pub returns-then-is_empty-clause-shown : goal.returns-then-is_empty-clause-shown
returns-then-is_empty-clause-shown c = λ s h.
    let t = c.args.self.now in
    let none = eqb-true (vec_len t.undated) 0 (sym c.is_empty.ensures ∙ c.if-is_empty.true) in
    open_dated t t c.args.now s (dated_empty t c.args.now (none_waits t.undated.items (omega (arith, none, t.undated.ok.0)))) h

pub returns-then-is_empty-clause-none : goal.returns-then-is_empty-clause-none
returns-then-is_empty-clause-none c =
    let t = c.args.self.now in
    let none = eqb-true (vec_len t.undated) 0 (sym c.is_empty.ensures ∙ c.if-is_empty.true) in
    none_waits t.undated.items (omega (arith, none, t.undated.ok.0))
