use Rattle.std.proofs.Common.{ap, length, arith}
use Rattle.conn_core.proofs.negotiating.Made.{if_ok_by}
use Rattle.conn_core.proofs.negotiating.greeting.told_if.Goals as goal

pub returns-then-told-clause-ids : goal.returns-then-told-clause-ids
returns-then-told-clause-ids c = rw c.if-told.true c.from_slice.ensures

pub returns-then-told-clause-few : goal.returns-then-told-clause-few
returns-then-told-clause-few c = if_ok_by c.from_slice.result c.from_slice.ensures (λ ids e. omega (arith, ap length e))
