use Rattle.std.proofs.Common.{◌<◌, List, length, sym, subst}
use Rattle.spec_exchange.specs.Table.{put}
use Rattle.spec_exchange.specs.Client.{take_op}
use Rattle.client_rows.specs.declared.operation_rows.row.Row.{Row}
use Rattle.client_rows.specs.operation_rows.Moves.{StandsRows}
use Rattle.client_rows.specs.Shown.{ShowsRows, fills_by, waits_by}
use Rattle.client_tables.proofs.submits.Taken.{stand_same, taken_shown}
use Rattle.client_tables.proofs.submits.adding.add_one.Goals as goal

pub returns-clause-safe : goal.returns-clause-safe
returns-clause-safe c = λ d op holders s i p. c.add.ensures.safe (waits_by (put d.op (length c.args.rows.now.items) op))
    (fills_by (put d.op (length c.args.rows.now.items) op)) holders s i p

pub returns-clause-shown : goal.returns-clause-shown
returns-clause-shown c = λ d op holders safe s e o i new.
    let old = c.args.rows.now.items in
    let holds = waits_by (put d.op (length old) op) in
    let fills = fills_by (put d.op (length old) op) in
    let prices = c.add.new.prices in
    let watchers = c.args.watchers.now in
    subst (λ (xs : List Row). ShowsRows xs holders prices watchers (take_op d (length old) op)) (sym c.add.ensures.more)
    (taken_shown old c.args.row d op holders c.args.prices.now prices watchers watchers e i s
    (subst (λ (xs : List Row). StandsRows holds fills xs holders prices watchers) c.add.ensures.more
    (c.add.ensures.stands holds fills holders safe
    (stand_same old c.args.row d op holders c.args.prices.now watchers safe c.requires.counts
    (λ h p l. let t = s.places.is_taken h p l in subst (λ z. 0 < z) (s.places.creates h p t) (o h p t)) s.stand) new)))
