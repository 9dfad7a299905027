use Rattle.std.proofs.Common.{ℕ, List, set, sym, subst}
use Rattle.client_rows.specs.operation_rows.Moves.{StandsRows}
use Rattle.client_rows.proofs.operation_rows.Changing.{settled_row, stands_settled}
use Rattle.client_rows.proofs.operation_rows.moves.settle.Goals as goal

pub returns-clause-stands : goal.returns-clause-stands
returns-clause-stands c = λ holds fills holders s first.
    let old = c.args.rows.now in
    subst (λ (ps : List ℕ). StandsRows holds fills (set old c.args.index (settled_row old c.args.index c.args.firm)) holders ps
    c.wake.new.watchers) (sym c.set.ensures)
    (stands_settled holds fills old holders c.wake.new.prices c.wake.new.watchers c.args.index c.args.firm
    c.requires.within c.wake.ensures.counts c.wake.ensures.none first (c.wake.ensures.stands holds fills holders s))
