use Rattle.std.proofs.Common.{ℕ, List, set, is_some, sym, ap, subst, ◌∙◌}
use Rattle.client_rows.specs.operation_rows.Choosing.{price_of}
use Rattle.client_rows.specs.operation_rows.Moves.{StandsRows}
use Rattle.client_rows.proofs.operation_rows.Changing.{stands_changed}
use Rattle.client_rows.proofs.operation_rows.moves.change.Goals as goal

pub returns-clause-stands : goal.returns-clause-stands
returns-clause-stands c = λ holds fills holders s.
    subst (λ (ps : List ℕ). StandsRows holds fills (set c.args.rows.now c.args.index c.args.row) holders ps c.args.watchers.now)
    (sym c.set.ensures)
    (stands_changed holds fills c.args.rows.now holders c.args.prices.now c.args.watchers.now c.args.index
    c.price-price.result c.args.row c.requires.within c.requires.counts c.requires.keeps
    (c.price-price.ensures ∙ ap (λ w. price_of c.args.row.unsettled (is_some c.args.row.outstanding_on) w
    c.args.row.cost) c.watched.ensures)
    s)
