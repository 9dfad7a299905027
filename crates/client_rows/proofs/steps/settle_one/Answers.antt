use Rattle.std.proofs.Common.{List, sym, subst}
use Rattle.spec_exchange.specs.Table.{put}
use Rattle.client_rows.specs.declared.operation_rows.row.Row.{Row}
use Rattle.client_rows.specs.operation_rows.Moves.{StandsRows}
use Rattle.client_rows.specs.Shown.{ShowsRows, fills_by, waits_by}
use Rattle.client_rows.proofs.Moving.{is_first, shown_settled}
use Rattle.client_rows.proofs.steps.settle_one.Goals as goal

pub returns-clause-shown : goal.returns-clause-shown
returns-clause-shown c = λ d holders o safe s u f first.
    let old = c.args.rows.now in
    let x = c.args.index in
    subst (λ (xs : List Row). ShowsRows xs holders c.settle.new.prices c.settle.new.watchers (record d { outcome = put d.outcome x o }))
    (sym c.settle.ensures.row)
    (shown_settled old x c.args.firm holders c.args.prices.now c.settle.new.prices c.args.watchers.now c.settle.new.watchers d o
    c.requires.within s u f
    (subst (λ (xs : List Row). StandsRows (waits_by d.op) (fills_by d.op) xs holders c.settle.new.prices c.settle.new.watchers)
    c.settle.ensures.row (c.settle.ensures.stands (waits_by d.op) (fills_by d.op) holders s.stand
    (is_first old holders c.args.prices.now holders c.args.watchers.now d x safe s c.requires.above
    (s.places.is_taken x c.requires.above c.requires.within) first))))
