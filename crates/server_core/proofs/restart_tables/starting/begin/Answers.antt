use Rattle.std.proofs.Common.{◌∙◌}
use Rattle.server_core.proofs.restart_tables.Behind.{found, leaves_read, quiet_leaves, quiet_stands, unfolded, unless}
use Rattle.server_core.proofs.restart_tables.Behind.{unwritten_quiet, written_stands}
use Rattle.server_core.proofs.restart_tables.starting.begin.Goals as goal

pub returns-in-Ok-opened : goal.returns-in-Ok-opened
returns-in-Ok-opened g c =
    let f = found g.D.Disk.told g.D.Disk.seen g.D.Disk.may_leave g.D.Disk.faults c.args.journal.now c.fold_bodies.new.journal
    c.new-state.result c.fold_bodies.new.state c.opened.new.state c.in-Ok-opened.body c.new-state.ensures
    c.in-Ok.ensures.read c.in-Ok.ensures.folded c.in-Ok.ensures.stays c.in-Ok-opened.ensures in
    record {
      answers = λ disk i. c.write.ensures.answers disk c.args.journal.now i f;
      any_moment = leaves_read g.D.Disk.told g.D.Disk.seen g.D.Disk.may_leave g.D.Disk.moment g.D.Disk.left_since g.D.Disk.faults
          c.args.journal.now c.fold_bodies.new.journal c.write.new.journal c.opened.new.state c.in-Ok-opened.body f
          c.fold_bodies.ensures.quiet c.write.ensures.any_moment;
      stays = written_stands g.D.Disk.told g.D.Disk.seen g.D.Disk.may_leave g.D.Disk.moment g.D.Disk.left_since g.D.Disk.faults
          c.args.journal.now c.fold_bodies.new.journal c.write.new.journal c.opened.new.state c.in-Ok-opened.body f
          c.write.ensures.stays;
      unwritten = unwritten_quiet g.D.Disk.told g.D.Disk.seen g.D.Disk.may_leave g.D.Disk.moment g.D.Disk.left_since g.D.Disk.faults
          c.args.journal.now.disk c.fold_bodies.new.journal.disk c.write.new.journal.disk c.write.result c.fold_bodies.ensures.quiet
          c.write.ensures.unwritten;
      config = c.write.ensures.config;
    }

pub returns-in-Err-opened : goal.returns-in-Err-opened
returns-in-Err-opened g c = record {
  answers = λ disk i. c.in-Ok.ensures.read.1 ∙ i.0.0;
  any_moment = λ t all settled.
      quiet_leaves g.D.Disk.told g.D.Disk.seen g.D.Disk.may_leave g.D.Disk.moment g.D.Disk.left_since g.D.Disk.faults
      c.args.journal.now.disk c.fold_bodies.new.journal.disk all c.fold_bodies.ensures.quiet;
  stays = quiet_stands g.D.Disk.told g.D.Disk.seen g.D.Disk.may_leave g.D.Disk.moment g.D.Disk.left_since g.D.Disk.faults
      c.args.journal.now c.fold_bodies.new.journal.disk c.fold_bodies.ensures.quiet;
  unwritten = c.fold_bodies.ensures.quiet;
  config = tt;
}

pub returns-in-Err : goal.returns-in-Err
returns-in-Err g c = record {
  answers = λ disk i.
      unfolded g.D.Disk.told g.D.Disk.seen g.D.Disk.may_leave g.D.Disk.faults disk c.args.journal.now c.fold_bodies.new.journal
      c.new-state.result c.in-Err.error i c.new-state.ensures c.in-Err.ensures.cause c.in-Err.ensures.refused;
  any_moment = λ t all settled.
      quiet_leaves g.D.Disk.told g.D.Disk.seen g.D.Disk.may_leave g.D.Disk.moment g.D.Disk.left_since g.D.Disk.faults
      c.args.journal.now.disk c.fold_bodies.new.journal.disk all c.fold_bodies.ensures.quiet;
  stays = quiet_stands g.D.Disk.told g.D.Disk.seen g.D.Disk.may_leave g.D.Disk.moment g.D.Disk.left_since g.D.Disk.faults
      c.args.journal.now c.fold_bodies.new.journal.disk c.fold_bodies.ensures.quiet;
  unwritten = unless c.in-Err.error _ c.fold_bodies.ensures.quiet;
  config = tt;
}
