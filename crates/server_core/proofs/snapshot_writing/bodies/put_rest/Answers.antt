use Rattle.server_core.proofs.snapshot_writing.Lemmas.{goes_same}
use Rattle.server_core.proofs.snapshot_writing.bodies.put_rest.Goals as goal

pub returns-then-is_empty-clause-goes : goal.returns-then-is_empty-clause-goes
returns-then-is_empty-clause-goes g c = goes_same g.D.Disk.told g.D.Disk.seen g.D.Disk.may_leave g.D.Disk.moment g.D.Disk.left_since g.D.Disk.faults
    g.met.D.Disk.only_now c.args.journal.now _
