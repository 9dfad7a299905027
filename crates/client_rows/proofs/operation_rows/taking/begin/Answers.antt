use Rattle.std.proofs.Common.{◌≡◌, ℕ, ◌<◌, List, [], length, set, sym, subst, ◌∙◌}
use Rattle.client_rows.specs.declared.operation_rows.row.Row.{Row}
use Rattle.client_rows.specs.operation_rows.Rows.{no_row}
use Rattle.client_rows.specs.operation_rows.Choosing.{RowCounts}
use Rattle.client_rows.specs.operation_rows.Holding.{IsSafe}
use Rattle.client_rows.specs.operation_rows.Moves.{StandsRows}
use Rattle.client_rows.proofs.operation_rows.Beginning.{safe_first, stands_first}
use Rattle.client_rows.proofs.operation_rows.Growing.{counts_more, on_err}
use Rattle.client_rows.proofs.operation_rows.taking.begin.Goals as goal

pub put_none-requires-clause-none : goal.put_none-requires-clause-none
put_none-requires-clause-none c = c.make_room.ensures.same ∙ c.requires.none

pub put_none-requires-clause-priced : goal.put_none-requires-clause-priced
put_none-requires-clause-priced c =
    subst (λ (xs : List Row). length xs < length c.make_room.new.prices) (c.make_room.ensures.same ∙ c.requires.none)
    c.in_ok-make_room.ensures.priced

pub returns-in_err-make_room-clause-err : goal.returns-in_err-make_room-clause-err
returns-in_err-make_room-clause-err c = on_err c.from_residual.result (c.make_room.ensures.same ∙ c.requires.none)

pub returns-clause-counts : goal.returns-clause-counts
returns-clause-counts c =
    let e : c.make_room.new.rows.items ≡ [] = c.make_room.ensures.same ∙ c.requires.none in
    let prices = c.make_room.new.prices in
    let watchers = c.make_room.new.watchers in
    subst (λ (ps : List ℕ). RowCounts c.put_none.new.rows.items ps watchers) (sym c.put_none.ensures.price)
    (subst (λ (xs : List Row). RowCounts xs (set prices 0 255) watchers) (sym c.put_none.ensures.row)
    (counts_more [] no_row prices watchers 255 (subst (λ (xs : List Row). RowCounts xs prices watchers) e c.make_room.ensures.counts)
    (subst (λ (xs : List Row). length xs < length prices) e c.in_ok-make_room.ensures.priced)
    (subst (λ (xs : List Row). length xs < length watchers) e c.in_ok-make_room.ensures.watched)))

pub returns-clause-safe : goal.returns-clause-safe
returns-clause-safe c = λ holders. subst (λ (xs : List Row). IsSafe xs holders) (sym c.put_none.ensures.row) (safe_first holders)

pub returns-clause-stands : goal.returns-clause-stands
returns-clause-stands c = λ holds fills holders s.
    let e : c.make_room.new.rows.items ≡ [] = c.make_room.ensures.same ∙ c.requires.none in
    let prices = c.make_room.new.prices in
    let watchers = c.make_room.new.watchers in
    subst (λ (ps : List ℕ). StandsRows holds fills c.put_none.new.rows.items holders ps watchers) (sym c.put_none.ensures.price)
    (subst (λ (xs : List Row). StandsRows holds fills xs holders (set prices 0 255) watchers) (sym c.put_none.ensures.row)
    (stands_first holds fills holders prices watchers
    (subst (λ (xs : List Row). length xs < length prices) e c.in_ok-make_room.ensures.priced)
    (subst (λ (xs : List Row). StandsRows holds fills xs holders prices watchers) e (c.make_room.ensures.stands holds fills holders s))))
