use Rattle.std.proofs.Common.{ℕ, List, subst}
use Rattle.spec_wire.specs.journal.Moments.{LeavesOnly}
use Rattle.journal.specs.disk_journal.Journal.{BeforeOrAfter}
use Rattle.server_core.proofs.restart_tables.Behind.{not_written, restarted, unwritten}
use Rattle.server_core.proofs.restart_tables.starting.write.Goals as goal

pub returns-in-Ok : goal.returns-in-Ok
returns-in-Ok g c = record {
  answers = λ disk first i f.
      restarted g.D.Disk.told g.D.Disk.seen g.D.Disk.may_leave g.D.Disk.faults disk first c.args.journal.now c.append.new.self
      c.args.state c.used-used.result c.in-Ok._number c.args.body.now c.as_slice.result.now c.args.config c.tables_of.result i f
      c.as_slice.ensures c.in-Ok.ensures.acknowledged c.in-Ok.ensures.cause c.used-used.ensures c.tables_of.ensures.shown
      c.tables_of.ensures.logons;
  any_moment = λ t all settled.
      subst (λ (m : List ℕ). LeavesOnly g.D.Disk.moment g.D.Disk.left_since c.args.journal.now.disk c.append.new.self.disk
      (BeforeOrAfter all m)) c.as_slice.ensures (c.in-Ok.ensures.any_moment t all settled);
  stays = λ t all settled.
      subst (λ (m : List ℕ). BeforeOrAfter all m (g.D.Disk.seen c.append.new.self.disk)) c.as_slice.ensures
      (c.in-Ok.ensures.stays t all settled);
  unwritten = tt;
  config = c.tables_of.ensures.config;
}

pub returns-in-Err : goal.returns-in-Err
returns-in-Err g c = record {
  answers = λ disk first i f.
      unwritten g.D.Disk.told g.D.Disk.seen g.D.Disk.may_leave g.D.Disk.faults disk first c.args.journal.now c.append.new.self
      c.args.state c.args.body.now c.as_slice.result.now c.in-Err.error i f c.as_slice.ensures c.in-Err.ensures.cause;
  any_moment = λ t all settled.
      subst (λ (m : List ℕ). LeavesOnly g.D.Disk.moment g.D.Disk.left_since c.args.journal.now.disk c.append.new.self.disk
      (BeforeOrAfter all m)) c.as_slice.ensures (c.in-Err.ensures.any_moment t all settled);
  stays = λ t all settled.
      subst (λ (m : List ℕ). BeforeOrAfter all m (g.D.Disk.seen c.append.new.self.disk)) c.as_slice.ensures
      (c.in-Err.ensures.stays t all settled);
  unwritten = not_written g.D.Disk.told g.D.Disk.seen g.D.Disk.may_leave g.D.Disk.faults c.args.journal.now c.append.new.self
      c.as_slice.result.now c.in-Err.error c.in-Err.ensures.cause;
  config = tt;
}
