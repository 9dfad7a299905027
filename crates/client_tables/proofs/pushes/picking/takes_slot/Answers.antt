use Rattle.std.proofs.Common.{◌&&◌, ◌||◌, not}
use Rattle.client_rows.specs.operation_rows.Rows.{row_at}
use Rattle.spec_exchange.specs.Client.{is_attached}
use Rattle.client_rows.specs.open_marks.Marks.{is_create_kind, is_lock_kind}
use Rattle.client_tables.proofs.pushes.Picked.{and_both, and_none}
use Rattle.client_tables.proofs.pushes.picking.takes_slot.Goals as goal

pub returns-then-goes_itself : goal.returns-then-goes_itself
returns-then-goes_itself c = λ d create h a.
    and_both c.goes_itself.result (is_create_kind (row_at c.args.rows.now c.args.index).kind || is_attached d create)
    c.is_new_lock.result
    (is_lock_kind (row_at c.args.rows.now c.args.index).kind && not (row_at c.args.rows.now c.args.index).sent)
    (c.goes_itself.ensures d create h a) c.if-goes_itself.true c.is_new_lock.ensures

pub returns-else-goes_itself : goal.returns-else-goes_itself
returns-else-goes_itself c = λ d create h a.
    and_none c.goes_itself.result (is_create_kind (row_at c.args.rows.now c.args.index).kind || is_attached d create)
    (is_lock_kind (row_at c.args.rows.now c.args.index).kind && not (row_at c.args.rows.now c.args.index).sent)
    (c.goes_itself.ensures d create h a) c.if-goes_itself.false
