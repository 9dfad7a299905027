use Rattle.client_rows.specs.operation_rows.Rows.{row_at}
use Rattle.spec_exchange.specs.Client.{is_attached}
use Rattle.client_rows.specs.open_marks.Marks.{is_create_kind}
use Rattle.client_tables.proofs.pushes.Picked.{or_first, or_second}
use Rattle.client_tables.proofs.pushes.picking.goes_itself.Goals as goal

pub returns-then-is_create : goal.returns-then-is_create
returns-then-is_create c = λ d create h a.
    or_first c.is_create.result (is_create_kind (row_at c.args.rows.now c.args.index).kind) (is_attached d create)
    c.is_create.ensures c.if-is_create.true

pub returns-else-is_create : goal.returns-else-is_create
returns-else-is_create c = λ d create h a.
    or_second c.is_create.result (is_create_kind (row_at c.args.rows.now c.args.index).kind) (is_attached d create)
    c.is_attached.result c.is_create.ensures c.if-is_create.false (c.is_attached.ensures d create h a)
