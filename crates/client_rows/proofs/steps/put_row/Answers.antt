use Rattle.std.proofs.Common.{List, sym, subst}
use Rattle.client_rows.specs.declared.operation_rows.row.Row.{Row}
use Rattle.client_rows.specs.operation_rows.Moves.{StandsRows}
use Rattle.client_rows.specs.Shown.{KeepsRow, ShowsRows, fills_by, waits_by}
use Rattle.client_rows.proofs.Keeping.{keeps_one}
use Rattle.client_rows.proofs.Moving.{shown_moved}
use Rattle.client_rows.proofs.steps.put_row.Goals as goal

pub returns-clause-shown : goal.returns-clause-shown
returns-clause-shown c = λ d holders sent out asks unanswered sequence slot number s w.
    subst (λ (xs : List Row). ShowsRows xs holders c.change.new.prices c.args.watchers.now (record d {
      sent = sent;
      outstanding_on = out;
      asks_attach = asks;
      unanswered = unanswered;
      sequence_of = sequence;
      slot_of = slot;
      number_of = number;
    }))
    (sym c.change.ensures.row)
    (shown_moved c.args.rows.now c.args.index c.args.row holders c.args.prices.now c.change.new.prices c.args.watchers.now d sent out
    asks unanswered sequence slot number c.requires.within c.requires.keeps c.requires.firm c.requires.cost c.requires.charge s w
    (subst (λ (xs : List Row). StandsRows (waits_by d.op) (fills_by d.op) xs holders c.change.new.prices c.args.watchers.now)
    c.change.ensures.row (c.change.ensures.stands (waits_by d.op) (fills_by d.op) holders s.stand)))

pub returns-clause-place : goal.returns-clause-place
returns-clause-place c = λ e.
    let old = c.args.rows.now in
    subst (λ (xs : List Row). KeepsRow old xs c.args.index) (sym c.change.ensures.row)
    (keeps_one old c.args.index c.args.row c.requires.within c.requires.keeps e c.requires.firm c.requires.charge)
