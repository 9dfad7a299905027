use Rattle.server_core.proofs.compaction.Moments.{leaves_more, leaves_snapshot}
use Rattle.server_core.proofs.compaction.rewriting.adopt_draft.Goals as goal

pub returns-in-Ok-Done-clause-any_moment : goal.returns-in-Ok-Done-clause-any_moment
returns-in-Ok-Done-clause-any_moment g c = λ told s bodies w settled. leaves_more g.D.Disk.told g.D.Disk.seen g.D.Disk.may_leave
    g.D.Disk.moment g.D.Disk.left_since _ _ _ _
    (leaves_snapshot g.D.Disk.told g.D.Disk.seen g.D.Disk.may_leave g.D.Disk.moment g.D.Disk.left_since s bodies w.bodies w.snapshot)
    (c.finish.ensures.any_moment told bodies w.bodies settled (w.draft told))

pub returns-in-Ok-NoRoom-clause-any_moment : goal.returns-in-Ok-NoRoom-clause-any_moment
returns-in-Ok-NoRoom-clause-any_moment g c = λ told s bodies w settled. leaves_more g.D.Disk.told g.D.Disk.seen g.D.Disk.may_leave
    g.D.Disk.moment g.D.Disk.left_since _ _ _ _
    (leaves_snapshot g.D.Disk.told g.D.Disk.seen g.D.Disk.may_leave g.D.Disk.moment g.D.Disk.left_since s bodies w.bodies w.snapshot)
    (c.finish.ensures.any_moment told bodies w.bodies settled (w.draft told))

pub returns-in-Err-clause-any_moment : goal.returns-in-Err-clause-any_moment
returns-in-Err-clause-any_moment g c = λ told s bodies w settled. leaves_more g.D.Disk.told g.D.Disk.seen g.D.Disk.may_leave
    g.D.Disk.moment g.D.Disk.left_since _ _ _ _
    (leaves_snapshot g.D.Disk.told g.D.Disk.seen g.D.Disk.may_leave g.D.Disk.moment g.D.Disk.left_since s bodies w.bodies w.snapshot)
    (c.finish.ensures.any_moment told bodies w.bodies settled (w.draft told))
