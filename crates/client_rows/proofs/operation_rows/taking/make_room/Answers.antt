use Rattle.std.proofs.Common.{◌<◌, List, length, refl, sym, subst}
use Rattle.client_rows.specs.declared.operation_rows.row.Row.{Row}
use Rattle.client_rows.specs.operation_rows.Choosing.{RowCounts}
use Rattle.client_rows.specs.operation_rows.Moves.{StandsRows}
use Rattle.client_rows.proofs.operation_rows.Growing.{counts_grown, stands_grown}
use Rattle.client_rows.proofs.operation_rows.taking.make_room.Goals as goal

pub returns-in_err-grow_prices-clause-stands : goal.returns-in_err-grow_prices-clause-stands
returns-in_err-grow_prices-clause-stands c = λ holds fills holders s.
    subst (λ (xs : List Row). StandsRows holds fills xs holders c.grow_prices.new.prices c.args.watchers.now)
    (sym c.reserve.ensures.items)
    (stands_grown holds fills c.args.rows.now.items holders c.args.prices.now c.grow_prices.new.prices
    c.args.watchers.now c.args.watchers.now c.requires.counts c.grow_prices.ensures.grew (λ g. refl) s)

pub returns-in_err-grow_watchers-clause-stands : goal.returns-in_err-grow_watchers-clause-stands
returns-in_err-grow_watchers-clause-stands c = λ holds fills holders s.
    subst (λ (xs : List Row). StandsRows holds fills xs holders c.grow_prices.new.prices c.grow_watchers.new.watchers)
    (sym c.reserve.ensures.items)
    (stands_grown holds fills c.args.rows.now.items holders c.args.prices.now c.grow_prices.new.prices
    c.args.watchers.now c.grow_watchers.new.watchers c.requires.counts c.grow_prices.ensures.grew c.grow_watchers.ensures.watch s)

pub returns-clause-stands : goal.returns-clause-stands
returns-clause-stands c = λ holds fills holders s.
    subst (λ (xs : List Row). StandsRows holds fills xs holders c.grow_prices.new.prices c.grow_watchers.new.watchers)
    (sym c.reserve.ensures.items)
    (stands_grown holds fills c.args.rows.now.items holders c.args.prices.now c.grow_prices.new.prices
    c.args.watchers.now c.grow_watchers.new.watchers c.requires.counts c.grow_prices.ensures.grew c.grow_watchers.ensures.watch s)

pub returns-clause-counts : goal.returns-clause-counts
returns-clause-counts c =
    let w = c.grow_watchers.ensures in
    subst (λ (xs : List Row). RowCounts xs c.grow_prices.new.prices c.grow_watchers.new.watchers) (sym c.reserve.ensures.items)
    (counts_grown c.args.rows.now.items c.args.prices.now c.grow_prices.new.prices c.args.watchers.now c.grow_watchers.new.watchers
    c.requires.counts c.grow_prices.ensures.grew w.more w.few w.watch)

pub returns-clause-priced : goal.returns-clause-priced
returns-clause-priced c =
    subst (λ z. z < length c.grow_prices.new.prices) c.count_of-count.ensures c.in_ok-grow_prices.ensures.grown

pub returns-clause-watched : goal.returns-clause-watched
returns-clause-watched c =
    subst (λ z. z < length c.grow_watchers.new.watchers) c.count_of-count.ensures c.in_ok-grow_watchers.ensures.grown
