use Rattle.server_checks.proofs.Locks.{named_filled}
use Rattle.server_checks.proofs.tables.Tables.changed_ranges.Goals as goal

pub returns-in-Ok : goal.returns-in-Ok
returns-in-Ok c = λ s t st f. c.ranges_behind.ensures s t st
    (rw c.deref.ensures.value (named_filled c.args.id c.args.elements.now _ c.in-Ok.ensures.0 f))
    (rw c.deref.ensures.value c.in-Ok.ensures.1) (rw c.deref.ensures.value c.in-Ok.ensures.0)
