use Rattle.server_core.proofs.snapshot_writing.Lemmas.{goes_same}
use Rattle.server_core.proofs.snapshot_writing.bodies.pass_on.Goals as goal

pub returns-then-len-lt-ENOUGH-clause-goes : goal.returns-then-len-lt-ENOUGH-clause-goes
returns-then-len-lt-ENOUGH-clause-goes g c = goes_same g.D.Disk.told g.D.Disk.seen g.D.Disk.may_leave g.D.Disk.moment g.D.Disk.left_since g.D.Disk.faults
    g.met.D.Disk.only_now c.args.journal.now _
