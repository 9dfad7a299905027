use Rattle.std.proofs.Common.{Err, inl, subst}
use Rattle.server_core.specs.compaction.Compacts.{RewriteLeaves}
use Rattle.server_core.specs.snapshot_writing.Told.{DraftAnswers}
use Rattle.server_core.proofs.compaction.Moments.{quiet_first, settled_on, stands}
use Rattle.server_core.proofs.compaction.rewriting.write_and_adopt.Goals as goal

pub returns-in-Ok-clause-any_moment : goal.returns-in-Ok-clause-any_moment
returns-in-Ok-clause-any_moment g c = λ told s bodies fits files opens version begun settled.
    let w = c.in-Ok.ensures.goes in
    quiet_first g.D.Disk.told g.D.Disk.seen g.D.Disk.may_leave g.D.Disk.moment g.D.Disk.left_since _ _ _ (RewriteLeaves s bodies)
    (λ x left. inl (stands g.D.Disk.told g.D.Disk.seen g.D.Disk.may_leave g.D.Disk.moment g.D.Disk.left_since c.args.journal.now bodies
    settled x left))
    w.quiet
    (c.adopt_draft.ensures.any_moment told s bodies (c.in-Ok.ensures.whole s fits files opens version begun)
    (settled_on g.D.Disk.told g.D.Disk.seen g.D.Disk.may_leave g.D.Disk.moment g.D.Disk.left_since told g.D.Disk.faults _ _ bodies settled
    w.quiet w.cause))

pub returns-in-Err-GivenUp-clause-goes_on : goal.returns-in-Err-GivenUp-clause-goes_on
returns-in-Err-GivenUp-clause-goes_on g c = λ told bodies settled.
    let w = c.in-Err-GivenUp.ensures.goes in
    settled_on g.D.Disk.told g.D.Disk.seen g.D.Disk.may_leave g.D.Disk.moment g.D.Disk.left_since told g.D.Disk.faults _ _ bodies settled
    w.quiet
    (subst (λ x. DraftAnswers g.D.Disk.faults c.args.journal.now (Err x) c.write_snapshot.new.journal) c.in-Err-GivenUp.field-0-is w.cause)
