use Rattle.std.proofs.Common.{List, subst, true, if◌then◌else◌, sym, ap, is_some, ◌∙◌}
use Rattle.client_tables.proofs.cuts.Columns.{end_lost, end_stays}
use Rattle.client_rows.specs.declared.operation_rows.row.Row.{Row}
use Rattle.client_rows.specs.operation_rows.Rows.{row_at}
use Rattle.client_tables.specs.cuts.Cutting.{CutLoses}
use Rattle.client_tables.proofs.cuts.Losing.{loses_none, loses_one, lost_here}
use Rattle.client_tables.proofs.cuts.cutting.lose_any.Goals as goal

pub returns-then-not-is_out-clause-shown : goal.returns-then-not-is_out-clause-shown
returns-then-not-is_out-clause-shown c = λ d holders s.
    end_stays c.args.rows.now holders c.args.prices.now c.args.watchers.now d c.args.index
    (ap (λ o. is_some o) (s.sends.out_is c.args.index) ∙ sym c.is_out.ensures ∙ c.if-not-is_out.true) s

pub returns-clause-shown : goal.returns-clause-shown
returns-clause-shown c = λ d holders s.
    end_lost c.lose.new.rows holders c.lose.new.prices c.args.watchers.now d c.args.index
    (ap (λ o. is_some o) (s.sends.out_is c.args.index) ∙ sym c.is_out.ensures ∙ c.if-not-is_out.false)
    (c.lose.ensures.shown d holders s)

pub returns-then-not-is_out-clause-loses : goal.returns-then-not-is_out-clause-loses
returns-then-not-is_out-clause-loses c = loses_none c.args.rows.now

pub returns-clause-loses : goal.returns-clause-loses
returns-clause-loses c =
    let old = c.args.rows.now in
    let x = c.args.index in
    subst (λ (z : List Row). CutLoses old z) (sym c.lose.ensures.row)
    (loses_one old x (if (row_at old x).asking then (row_at old x).unanswered else true) c.requires.within)

pub returns-then-not-is_out-clause-none : goal.returns-then-not-is_out-clause-none
returns-then-not-is_out-clause-none c = sym c.is_out.ensures ∙ c.if-not-is_out.true

pub returns-clause-none : goal.returns-clause-none
returns-clause-none c =
    let old = c.args.rows.now in
    let x = c.args.index in
    lost_here old c.lose.new.rows x (if (row_at old x).asking then (row_at old x).unanswered else true) c.requires.within
    c.lose.ensures.row
