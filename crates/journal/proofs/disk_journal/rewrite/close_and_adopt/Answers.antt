use Rattle.std.proofs.Common.{◌≡◌, [], ◌∷◌, ◌++◌}
use Rattle.base_outside.specs.declared.streams.failed.Failed.{Failed}
use Rattle.journal.proofs.disk_journal.Forward.{done_of}
use Rattle.journal.proofs.disk_journal.Rewritten.{adopted_moments}
use Rattle.journal.proofs.disk_journal.rewrite.close_and_adopt.Goals as goal

pub returns-in-Ok-Done-clause-any_moment : goal.returns-in-Ok-Done-clause-any_moment
returns-in-Ok-Done-clause-any_moment g c = λ told.
    adopted_moments g.D.Disk.told g.D.Disk.seen g.D.Disk.may_leave g.D.Disk.moment g.D.Disk.left_since g.D.Renewal.drafted
    g.met.D.Disk.only_now c.args.disk.now c.put_quiet.new.disk c.adopt.new.self (g.D.Renewal.drafted c.args.disk.now ++ 0 ∷ [])
    c.put_quiet.ensures.quiet (λ shown. done_of Failed c.in-Ok-Done.field-0
    (g.D.Renewal.drafted c.put_quiet.new.disk ≡ g.D.Renewal.drafted c.args.disk.now ++ 0 ∷ []) c.in-Ok-Done.field-0-is
    (c.in-Ok-Done.ensures.put shown)) c.adopt.ensures.crash c.adopt.ensures.time told
