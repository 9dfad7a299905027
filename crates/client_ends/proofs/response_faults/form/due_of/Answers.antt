use Rattle.std.proofs.Common.{refl}
use Rattle.client_ends.proofs.response_faults.form.due_of.Goals as goal

pub returns-then-status-due : goal.returns-then-status-due
returns-then-status-due c = (refl, c.if-status-due.true)

pub returns-else-status-due : goal.returns-else-status-due
returns-else-status-due c = (refl, c.if-status-due.false)
