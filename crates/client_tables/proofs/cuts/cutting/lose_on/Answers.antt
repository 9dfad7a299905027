use Rattle.std.proofs.Common.{List, subst, true, if◌then◌else◌, sym, ap, ◌∙◌}
use Rattle.spec_exchange.specs.Table.{is_at}
use Rattle.client_tables.proofs.cuts.Columns.{one_lost, one_stays}
use Rattle.client_rows.specs.declared.operation_rows.row.Row.{Row}
use Rattle.client_rows.specs.operation_rows.Rows.{row_at}
use Rattle.client_tables.specs.cuts.Cutting.{CutLoses}
use Rattle.client_tables.proofs.cuts.Losing.{loses_none, loses_one}
use Rattle.client_tables.proofs.cuts.cutting.lose_on.Goals as goal

pub returns-then-not-is_on-clause-shown : goal.returns-then-not-is_on-clause-shown
returns-then-not-is_on-clause-shown c = λ d holders s.
    one_stays c.args.rows.now holders c.args.prices.now c.args.watchers.now d c.args.channel c.args.index
    (ap (λ o. is_at c.args.channel o) (s.sends.out_is c.args.index) ∙ sym c.is_on.ensures ∙ c.if-not-is_on.true) s

pub returns-clause-shown : goal.returns-clause-shown
returns-clause-shown c = λ d holders s.
    one_lost c.lose.new.rows holders c.lose.new.prices c.args.watchers.now d c.args.channel c.args.index
    (ap (λ o. is_at c.args.channel o) (s.sends.out_is c.args.index) ∙ sym c.is_on.ensures ∙ c.if-not-is_on.false)
    (c.lose.ensures.shown d holders s)

pub returns-then-not-is_on-clause-loses : goal.returns-then-not-is_on-clause-loses
returns-then-not-is_on-clause-loses c = loses_none c.args.rows.now

pub returns-clause-loses : goal.returns-clause-loses
returns-clause-loses c =
    let old = c.args.rows.now in
    let x = c.args.index in
    subst (λ (z : List Row). CutLoses old z) (sym c.lose.ensures.row)
    (loses_one old x (if (row_at old x).asking then (row_at old x).unanswered else true) c.requires.within)
