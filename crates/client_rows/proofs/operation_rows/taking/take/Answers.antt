use Rattle.std.proofs.Common.{◌<◌, List, [], ◌∷◌, ◌++◌, length, sym, ap, subst, ◌∙◌}
use Rattle.client_rows.specs.declared.operation_rows.row.Row.{Row}
use Rattle.client_rows.specs.operation_rows.Holding.{IsSafe}
use Rattle.client_rows.specs.operation_rows.Taking.{IsRowNew}
use Rattle.client_rows.proofs.operation_rows.Growing.{on_err}
use Rattle.client_rows.proofs.operation_rows.taking.take.Goals as goal

pub returns-in_err-make_room-clause-kept : goal.returns-in_err-make_room-clause-kept
returns-in_err-make_room-clause-kept c = on_err c.from_residual.result c.make_room.ensures.stands

pub returns-clause-ok : goal.returns-clause-ok
returns-clause-ok c = c.add.ensures.more ∙ ap (λ (xs : List Row). xs ++ c.args.row ∷ []) c.make_room.ensures.same

pub returns-clause-stands : goal.returns-clause-stands
returns-clause-stands c = λ holds fills holders safe s i.
    let e = c.make_room.ensures.same in
    c.add.ensures.stands holds fills holders (subst (λ (xs : List Row). IsSafe xs holders) (sym e) safe)
    (c.make_room.ensures.stands holds fills holders s)
    (subst (λ (xs : List Row). IsRowNew holds fills c.add.new.rows.items holders (length xs)) (sym e) i)

pub returns-clause-safe : goal.returns-clause-safe
returns-clause-safe c = λ holds fills holders safe i p.
    let e = c.make_room.ensures.same in
    c.add.ensures.safe holds fills holders (subst (λ (xs : List Row). IsSafe xs holders) (sym e) safe)
    (subst (λ (xs : List Row). IsRowNew holds fills c.add.new.rows.items holders (length xs)) (sym e) i)
    (subst (λ (xs : List Row). 0 < length xs) (sym e) p)
