use Rattle.std.proofs.Common.{◌≡◌, ℕ, List, length, set, is_some, refl, sym, ap, subst, ◌∙◌}
use Rattle.client_rows.specs.declared.operation_rows.row.Row.{Row}
use Rattle.client_rows.specs.operation_rows.Choosing.{RowCounts, price_of}
use Rattle.client_rows.specs.operation_rows.Holding.{IsSafe}
use Rattle.client_rows.specs.operation_rows.Moves.{StandsRows}
use Rattle.client_rows.specs.operation_rows.Taking.{IsRowNew}
use Rattle.client_rows.proofs.operation_rows.Adding.{safe_more, stands_more}
use Rattle.client_rows.proofs.operation_rows.Growing.{counts_more}
use Rattle.client_rows.proofs.operation_rows.taking.add.Goals as goal

pub returns-clause-stands : goal.returns-clause-stands
returns-clause-stands c = λ holds fills holders safe s i.
    let old = c.args.rows.now.items in
    let prices = c.args.prices.now in
    let watchers = c.args.watchers.now in
    let v = price_of c.args.row.unsettled (is_some c.args.row.outstanding_on) 0 c.args.row.cost in
    let priced : c.set.new.self ≡ set prices (length old) v =
    c.set.ensures ∙ (λ t. set prices (c.count_of-count.ensures t) (c.price-price.ensures t)) in
    subst (λ (ps : List ℕ). StandsRows holds fills c.put_row.new.rows.items holders ps watchers) (sym priced)
    (subst (λ (xs : List Row). StandsRows holds fills xs holders (set prices (length old) v) watchers) (sym c.put_row.ensures)
    (stands_more holds fills old c.args.row holders prices prices watchers watchers safe s
    (subst (λ (xs : List Row). IsRowNew holds fills xs holders (length old)) c.put_row.ensures i)
    (λ g k. refl) c.requires.priced (λ g. refl) c.requires.counts.inside))

pub returns-clause-safe : goal.returns-clause-safe
returns-clause-safe c = λ holds fills holders safe i p.
    let old = c.args.rows.now.items in
    subst (λ (xs : List Row). IsSafe xs holders) (sym c.put_row.ensures)
    (safe_more holds fills old c.args.row holders safe
    (subst (λ (xs : List Row). IsRowNew holds fills xs holders (length old)) c.put_row.ensures i) p)

pub returns-clause-counts : goal.returns-clause-counts
returns-clause-counts c =
    let old = c.args.rows.now.items in
    let prices = c.args.prices.now in
    let priced : c.set.new.self ≡ set prices (length old) c.price-price.result =
    c.set.ensures ∙ ap (λ z. set prices z c.price-price.result) c.count_of-count.ensures in
    subst (λ (ps : List ℕ). RowCounts c.put_row.new.rows.items ps c.args.watchers.now) (sym priced)
    (subst (λ (xs : List Row). RowCounts xs (set prices (length old) c.price-price.result) c.args.watchers.now) (sym c.put_row.ensures)
    (counts_more old c.args.row prices c.args.watchers.now c.price-price.result c.requires.counts c.requires.priced c.requires.watched))
