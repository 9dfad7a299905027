use Rattle.std.proofs.Common.{refl}
use Rattle.journal.proofs.disk_journal.Bodies.{found}
use Rattle.journal.proofs.disk_journal.journal.Journal.recover.Goals as goal

pub returns-in-Ok-Behind-clause-settled : goal.returns-in-Ok-Behind-clause-settled
returns-in-Ok-Behind-clause-settled g c = λ told bodies stood.
    found g.D.Disk.seen g.D.Disk.may_leave bodies c.args.disk _ c.in-Ok-Behind.gate c.in-Ok-Behind.used
    c.in-Ok-Behind.count c.in-Ok-Behind.field-0 c.in-Ok-Behind.field-0-is (c.in-Ok-Behind.ensures.mended told) stood refl refl refl
    refl refl refl refl
