use Rattle.std.proofs.Common.{◌-◌, Bool, List, set, refl, sym, ap, ◌∙◌, subst}
use Rattle.spec_exchange.specs.Table.{put}
use Rattle.client_rows.specs.declared.operation_rows.row.Row.{Row}
use Rattle.client_rows.specs.operation_rows.Rows.{stands}
use Rattle.client_rows.proofs.operation_rows.Walking.{row_here}
use Rattle.client_rows.proofs.operation_rows.Changing.{settled_row}
use Rattle.client_values.specs.outcomes.Meaning.{outcome_of}
use Rattle.client_tables.specs.settling.Shown.{GoesSettled, ShowsValues}
use Rattle.client_tables.proofs.settling.Going.{goes_one}
use Rattle.client_tables.proofs.settling.Settled.{never_unsettled, values_settled}
use Rattle.client_tables.proofs.settling.settling.settle_as.Goals as goal

pub returns-clause-row : goal.returns-clause-row
returns-clause-row c =
    let old = c.args.rows.now in
    let x = c.args.index in
    c.settle_one.ensures.row ∙ ap (λ (b : Bool). set old x (settled_row old x b)) c.is_firm-firm.ensures

pub returns-clause-here : goal.returns-clause-here
returns-clause-here c =
    let old = c.args.rows.now in
    let x = c.args.index in
    let r = settled_row old x c.is_firm-firm.result in
    ap (λ (xs : List Row). stands xs x) c.settle_one.ensures.row
    ∙ ap (λ (w : Row). w.unsettled) (row_here old x r x c.requires.within refl)

pub returns-clause-settles : goal.returns-clause-settles
returns-clause-settles c =
    let old = c.args.rows.now in
    subst (λ (xs : List Row). GoesSettled old xs) (sym c.settle_one.ensures.row)
    (goes_one old c.args.index c.is_firm-firm.result c.requires.within)

pub returns-clause-shown : goal.returns-clause-shown
returns-clause-shown c = λ d holders safe s first.
    c.settle_one.ensures.shown d holders (outcome_of c.args.outcome) safe s (never_unsettled c.args.outcome)
    (sym c.is_firm-firm.ensures) first

pub returns-clause-values : goal.returns-clause-values
returns-clause-values c = λ d ops s.
    let x = c.args.index in
    let o = c.args.outcome in
    subst (λ (xs : List Row). ShowsValues xs ops (set c.args.settled.now (x - 1) o) d.taken d.op (put d.outcome x (outcome_of o)))
    (sym c.settle_one.ensures.row)
    (values_settled c.args.rows.now x c.is_firm-firm.result ops c.args.settled.now o d.taken d.op d.outcome c.requires.above
    c.requires.within c.requires.counted s)
