use Rattle.std.proofs.Common.{ℕ, ◌-◌, ◌≤◌, Bool, List, set, ap, subst, arith}
use Rattle.client_rows.specs.declared.operation_rows.row.Row.{Row}
use Rattle.client_rows.specs.declared.operation_rows.chains.Chain.TheVariants as chains
use Rattle.client_rows.specs.operation_rows.Rows.{row_at, links, stands}
use Rattle.client_rows.specs.operation_rows.Chains.{Chained, Reaches, SameBut}
use Rattle.client_rows.specs.operation_rows.Choosing.{RowCounts}
use Rattle.client_rows.specs.operation_rows.Holding.{IsSafe}
use Rattle.client_rows.specs.operation_rows.Moves.{StandsRows}
use Rattle.client_rows.proofs.operation_rows.Walking.{positive}
use Rattle.client_tables.specs.costs.Costs.{priced_row}
use Rattle.client_tables.proofs.costs.Repricing.{reprices_begins, reprices_ends, reprices_keeps, reprices_one}
use Rattle.client_tables.proofs.costs.pricing.price_open.Goals as goal

pub loop-at-init : goal.loop-at-init
loop-at-init c =
    let e = c.first_unsettled-at.ensures in
    reprices_begins c.args.rows.now c.args.prices.now c.args.watchers.now c.args.attached c.args.last c.first_unsettled-at.new.rows
    c.first_unsettled-at.result c.requires.within c.requires.counts e.same e.descends e.below e.reaches e.chained

pub first_unsettled-at-requires-in-loop-at : goal.first_unsettled-at-requires-in-loop-at
first_unsettled-at-requires-in-loop-at c =
    let v = c.loop-at.invariant in
    let d = c.price_one.ensures.descends v.descends in
    let l : (row_at c.price_one.new.rows c.loop-at.at).lower ≤ c.loop-at.at - 1 = d c.loop-at.at in
    let w = v.within in
    let n = c.price_one.ensures.count in
    record { within = omega arith; descends = d }

pub loop-at-smaller : goal.loop-at-smaller
loop-at-smaller c =
    let d = c.price_one.ensures.descends c.loop-at.invariant.descends in
    let l : (row_at c.price_one.new.rows c.loop-at.at).lower ≤ c.loop-at.at - 1 = d c.loop-at.at in
    let b = c.first_unsettled-at-in-loop-at.ensures.below in
    let q = positive c.loop-at.at c.loop-at-test.true in
    omega arith

pub loop-at-preserved : goal.loop-at-preserved
loop-at-preserved c =
    let e = c.first_unsettled-at-in-loop-at.ensures in
    let o = c.price_one.ensures in
    let rows = c.loop-at.rows in
    let mid : List Row = set rows c.loop-at.at (priced_row c.args.attached (row_at rows c.loop-at.at)) in
    reprices_one c.args.rows.now c.args.prices.now c.args.watchers.now c.args.attached c.args.last rows c.loop-at.at
    c.first_unsettled-at-in-loop-at.new.rows c.loop-at.prices c.price_one.new.prices c.first_unsettled-at-in-loop-at.result
    (row_at c.price_one.new.rows c.loop-at.at).lower c.loop-at.invariant (positive c.loop-at.at c.loop-at-test.true)
    (subst (λ (xs : List Row). RowCounts xs c.price_one.new.prices c.args.watchers.now) o.row o.counts)
    (λ holds fills holders s. subst (λ (xs : List Row). StandsRows holds fills xs holders c.price_one.new.prices c.args.watchers.now)
    o.row (o.stands holds fills holders s))
    (λ holders s. subst (λ (xs : List Row). IsSafe xs holders) o.row (o.safe holders s))
    (ap (λ (xs : List Row). links chains.All xs c.loop-at.at) o.row)
    (subst (λ (xs : List Row). SameBut chains.All xs c.first_unsettled-at-in-loop-at.new.rows) o.row e.same) e.descends e.below
    (subst (λ (xs : List Row). (on : ℕ → ℕ → Bool) → Chained (links chains.All xs) on (stands xs) → Reaches on (stands xs)
    (row_at c.price_one.new.rows c.loop-at.at).lower c.first_unsettled-at-in-loop-at.result) o.row e.reaches)
    (subst (λ (xs : List Row). (on : ℕ → ℕ → Bool) → Chained (links chains.All xs) on (stands xs)
    → Chained (links chains.All c.first_unsettled-at-in-loop-at.new.rows) on
    (stands c.first_unsettled-at-in-loop-at.new.rows)) o.row e.chained)

pub returns-clause-shown : goal.returns-clause-shown
returns-clause-shown c = λ d holders paid p top.
    reprices_ends c.args.rows.now c.args.prices.now c.args.watchers.now c.args.attached c.args.last c.loop-at.rows c.loop-at.prices
    c.loop-at.at c.loop-at.invariant c.loop-at-test.false d holders paid p top

pub returns-clause-place : goal.returns-clause-place
returns-clause-place c = reprices_keeps c.args.rows.now c.args.prices.now c.args.watchers.now c.args.attached c.args.last
    c.loop-at.rows c.loop-at.prices c.loop-at.at c.loop-at.invariant
