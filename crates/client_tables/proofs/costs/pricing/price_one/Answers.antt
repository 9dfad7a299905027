use Rattle.std.proofs.Common.{◌≡◌, List, length, set, sym, ap, subst, ◌∙◌}
use Rattle.client_rows.specs.declared.operation_rows.row.Row.{Row}
use Rattle.client_rows.specs.declared.operation_rows.chains.Chain.TheVariants as chains
use Rattle.client_rows.specs.operation_rows.Rows.{row_at, links}
use Rattle.client_rows.specs.operation_rows.Chains.{Descends}
use Rattle.client_rows.proofs.operation_rows.Walking.{count_same}
use Rattle.client_tables.specs.costs.Costs.{priced_row}
use Rattle.client_tables.proofs.costs.Paid.{descends_one}
use Rattle.client_tables.proofs.costs.pricing.price_one.Goals as goal

pub returns-clause-row : goal.returns-clause-row
returns-clause-row c = c.change.ensures.row
    ∙ ap (λ z. set c.args.rows.now c.args.index (record (row_at c.args.rows.now c.args.index) { cost = z })) c.cost_of-cost.ensures

pub returns-clause-descends : goal.returns-clause-descends
returns-clause-descends c = λ d.
    let old = c.args.rows.now in
    let is : c.change.new.rows ≡ set old c.args.index (priced_row c.args.attached (row_at old c.args.index)) = c.change.ensures.row
    ∙ ap (λ z. set old c.args.index (record (row_at old c.args.index) { cost = z })) c.cost_of-cost.ensures in
    subst (λ (xs : List Row). Descends (links chains.All xs)) (sym is)
    (descends_one old c.args.index c.args.attached c.requires.within d)

pub returns-clause-count : goal.returns-clause-count
returns-clause-count c = ap (λ (xs : List Row). length xs) c.change.ensures.row
    ∙ count_same c.args.rows.now c.args.index (record (row_at c.args.rows.now c.args.index) { cost = c.cost_of-cost.result })
