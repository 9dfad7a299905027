use Rattle.server_core.proofs.start_law.Anew.{again, anew, full, over}
use Rattle.server_core.proofs.start_law.begun_law.Goals as goal

pub returns : goal.returns
returns g c = record {
  again = again g.D.Disk.told g.D.Disk.seen g.D.Disk.may_leave g.D.Disk.faults c.one_meaning.ensures c.snapshot_start_law.ensures.same;
  over = over g.D.Disk.told g.D.Disk.seen g.D.Disk.may_leave g.D.Disk.faults c.one_meaning.ensures c.snapshot_start_law.ensures.same
      c.snapshot_start_law.ensures.again;
  anew = anew g.D.Disk.told g.D.Disk.seen g.D.Disk.may_leave g.D.Disk.faults c.one_meaning.ensures c.snapshot_start_law.ensures.same;
  full = full g.D.Disk.told g.D.Disk.seen g.D.Disk.may_leave g.D.Disk.faults c.one_meaning.ensures c.snapshot_start_law.ensures.same
      c.snapshot_start_law.ensures.taken;
}
