use Rattle.std.proofs.lemmas.Result.{err_from_is_err_and}
use Rattle.journal.proofs.disk_journal.Rest.{settled_then}
use Rattle.journal.proofs.disk_journal.journal.Journal.rest.Goals as goal

pub returns-in_err-push-in-Ok-Some-clause-in_order : goal.returns-in_err-push-in-Ok-Some-clause-in_order
returns-in_err-push-in-Ok-Some-clause-in_order g c =
    let p = err_from_is_err_and c.from_residual.result c.from_residual.ensures.1 in
    rw (p.1, p.2) (λ told bodies settled.
    settled_then g.D.Disk.seen g.D.Disk.may_leave bodies c.loop-body.self c.next_body.new.self c.in-Ok-Some.field-0 c.in-Ok-Some.body
    c.in-Ok-Some.field-0-is (c.in-Ok-Some.ensures.in_order told bodies (c.loop-body.invariant.same told bodies settled)))
