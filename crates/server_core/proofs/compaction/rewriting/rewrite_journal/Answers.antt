use Rattle.std.proofs.Common.{MatchOption, [], inl, subst}
use Rattle.journal.specs.disk_journal.Rewrite.{IsDrafted}
use Rattle.server_core.specs.compaction.Compacts.{RewriteLeaves}
use Rattle.server_core.proofs.compaction.Moments.{quiet_first, stands}
use Rattle.server_core.proofs.compaction.rewriting.rewrite_journal.Goals as goal

pub returns-in-Ok-Some-clause-any_moment : goal.returns-in-Ok-Some-clause-any_moment
returns-in-Ok-Some-clause-any_moment g c = λ told s bodies fits files opens version settled.
    quiet_first g.D.Disk.told g.D.Disk.seen g.D.Disk.may_leave g.D.Disk.moment g.D.Disk.left_since _ _ _ (RewriteLeaves s bodies)
    (λ x left. inl (stands g.D.Disk.told g.D.Disk.seen g.D.Disk.may_leave g.D.Disk.moment g.D.Disk.left_since c.args.journal.now bodies
    settled x left))
    c.begin_rewrite.ensures.quiet
    (c.write_and_adopt.ensures.any_moment told s bodies fits files opens version
    (λ k. subst (λ o. MatchOption o (Unit {0}) (λ w. IsDrafted g.D.Renewal.drafted c.begin_rewrite.new.self.disk w []))
    c.in-Ok-Some.field-0-is (c.in-Ok-Some.ensures.begun k)) (c.in-Ok-Some.ensures.goes_on told bodies settled))
