use Rattle.server_plan.proofs.reserving.Differs.{pending_off, pending_on}
use Rattle.server_plan.proofs.reserving.acts.pending_acts.Goals as goal

pub returns-then-is_pending : goal.returns-then-is_pending
returns-then-is_pending c = λ s now h x. pending_on s c.args.file now c.args.pending c.is_pending.result
    (c.is_pending.ensures s h x) c.if-is_pending.true

pub returns : goal.returns
returns c = λ s now h x. pending_off s c.args.file now c.args.pending c.is_pending.result (c.is_pending.ensures s h x) c.if-is_pending.false
