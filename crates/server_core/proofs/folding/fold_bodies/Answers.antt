use Rattle.server_core.proofs.SoFar.{so_far_begun, so_far_more, nearer, all_read, stays_settled, reads_on, stays_quiet}
use Rattle.server_core.proofs.SoFar.{unread, unread_cause, unfolded, unfolded_cause}
use Rattle.server_core.proofs.folding.fold_bodies.Goals as goal

pub loop-body-init : goal.loop-body-init
loop-body-init g c = so_far_begun g.D.Disk.told g.D.Disk.seen g.D.Disk.may_leave g.D.Disk.moment g.D.Disk.left_since g.D.Disk.faults
    g.met.D.Disk.only_now c.args.journal.now c.args.state.now

pub loop-body-smaller : goal.loop-body-smaller
loop-body-smaller g c = nearer g.D.Disk.told g.D.Disk.seen g.D.Disk.may_leave g.D.Disk.moment g.D.Disk.left_since g.D.Disk.faults
    c.loop-body.journal c.next_body.new.self c.in-Ok-Some.body c.in-Ok-Some.field-0 c.next_body.result c.in-Ok-Some.is
    c.in-Ok-Some.field-0-is c.next_body.ensures.cause

pub loop-body-preserved : goal.loop-body-preserved
loop-body-preserved g c = so_far_more g.D.Disk.told g.D.Disk.seen g.D.Disk.may_leave g.D.Disk.moment g.D.Disk.left_since
    g.D.Disk.faults c.args.journal.now c.loop-body.journal c.next_body.new.self c.args.state.now c.loop-body.state
    c.fold_body.new.state c.in-Ok-Some.body c.loop-body.behind c.in-Ok-Some.field-0 c.next_body.result
    c.fold_body.result c.in-Ok.records c.loop-body.invariant c.in-Ok-Some.is c.in-Ok-Some.field-0-is c.next_body.ensures.in_order
    c.next_body.ensures.quiet c.next_body.ensures.cause c.in-Ok.is c.fold_body.ensures.applied

pub returns-in-Ok-None : goal.returns-in-Ok-None
returns-in-Ok-None g c = record {
  read = reads_on g.D.Disk.told g.D.Disk.seen g.D.Disk.may_leave g.D.Disk.moment g.D.Disk.left_since g.D.Disk.faults
      c.args.journal.now c.loop-body.journal c.next_body.new.self c.args.state.now c.loop-body.state
      c.loop-body.behind c.in-Ok-None.field-0 c.next_body.result c.loop-body.invariant c.in-Ok-None.is c.in-Ok-None.field-0-is
      c.next_body.ensures.cause;
  folded = λ s nothing shown.
      all_read g.D.Disk.told g.D.Disk.seen g.D.Disk.may_leave g.D.Disk.moment g.D.Disk.left_since g.D.Disk.faults
      c.args.journal.now c.loop-body.journal c.next_body.new.self c.args.state.now c.loop-body.state
      c.loop-body.behind c.in-Ok-None.field-0 c.next_body.result c.loop-body.invariant c.in-Ok-None.is c.in-Ok-None.field-0-is c.requires.1
      c.next_body.ensures.in_order s nothing shown;
  stays = stays_settled g.D.Disk.told g.D.Disk.seen g.D.Disk.may_leave g.D.Disk.moment g.D.Disk.left_since g.D.Disk.faults
      c.args.journal.now c.loop-body.journal c.next_body.new.self c.args.state.now c.loop-body.state
      c.loop-body.behind c.in-Ok-None.field-0 c.next_body.result c.loop-body.invariant c.in-Ok-None.is c.in-Ok-None.field-0-is
      c.next_body.ensures.in_order;
  refused = λ t s nothing shown bodies settled. tt;
  quiet = stays_quiet g.D.Disk.told g.D.Disk.seen g.D.Disk.may_leave g.D.Disk.moment g.D.Disk.left_since g.D.Disk.faults
      c.args.journal.now c.loop-body.journal c.next_body.new.self c.args.state.now c.loop-body.state
      c.loop-body.behind c.loop-body.invariant c.next_body.ensures.quiet;
  cause = tt;
}

pub returns-in-Err : goal.returns-in-Err
returns-in-Err g c = record {
  read = tt;
  folded = λ s nothing shown. tt;
  stays = λ t bodies settled. tt;
  refused = λ t s nothing shown.
      unread g.D.Disk.told g.D.Disk.seen g.D.Disk.may_leave g.D.Disk.moment g.D.Disk.left_since g.D.Disk.faults
      c.args.journal.now c.loop-body.journal c.next_body.new.self c.args.state.now c.loop-body.state
      c.loop-body.behind c.next_body.result c.in-Err.error c.loop-body.invariant c.in-Err.is c.next_body.ensures.in_order t;
  quiet = stays_quiet g.D.Disk.told g.D.Disk.seen g.D.Disk.may_leave g.D.Disk.moment g.D.Disk.left_since g.D.Disk.faults
      c.args.journal.now c.loop-body.journal c.next_body.new.self c.args.state.now c.loop-body.state
      c.loop-body.behind c.loop-body.invariant c.next_body.ensures.quiet;
  cause = unread_cause g.D.Disk.told g.D.Disk.seen g.D.Disk.may_leave g.D.Disk.moment g.D.Disk.left_since g.D.Disk.faults
      c.args.journal.now c.loop-body.journal c.next_body.new.self c.args.state.now c.loop-body.state
      c.loop-body.behind c.next_body.result c.in-Err.error c.loop-body.invariant c.in-Err.is c.requires.0 c.next_body.ensures.cause;
}

pub returns-in-Err-fold_body : goal.returns-in-Err-fold_body
returns-in-Err-fold_body g c = record {
  read = tt;
  folded = λ s nothing shown. tt;
  stays = λ t bodies settled. tt;
  refused = λ t s nothing shown.
      unfolded g.D.Disk.told g.D.Disk.seen g.D.Disk.may_leave g.D.Disk.moment g.D.Disk.left_since g.D.Disk.faults
      c.args.journal.now c.loop-body.journal c.next_body.new.self c.args.state.now c.loop-body.state c.fold_body.new.state
      c.loop-body.behind c.next_gate-gate.result c.in-Ok-Some.body c.in-Ok-Some.field-0 c.next_body.result c.fold_body.result
      c.in-Err-fold_body.error
      c.loop-body.invariant c.in-Ok-Some.is c.in-Ok-Some.field-0-is c.requires.1 c.next_gate-gate.ensures
      c.next_body.ensures.in_order c.in-Err-fold_body.is c.fold_body.ensures.cause c.fold_body.ensures.applied t s nothing shown;
  quiet = stays_quiet g.D.Disk.told g.D.Disk.seen g.D.Disk.may_leave g.D.Disk.moment g.D.Disk.left_since g.D.Disk.faults
      c.args.journal.now c.loop-body.journal c.next_body.new.self c.args.state.now c.loop-body.state
      c.loop-body.behind c.loop-body.invariant c.next_body.ensures.quiet;
  cause = unfolded_cause g.D.Disk.told g.D.Disk.seen g.D.Disk.may_leave g.D.Disk.moment g.D.Disk.left_since g.D.Disk.faults
      c.args.journal.now c.loop-body.journal c.next_body.new.self c.args.state.now c.loop-body.state c.loop-body.behind
      c.next_gate-gate.result
      c.in-Ok-Some.body c.in-Ok-Some.field-0 c.next_body.result c.fold_body.result c.in-Err-fold_body.error c.loop-body.invariant
      c.in-Ok-Some.is c.in-Ok-Some.field-0-is c.next_body.ensures.cause c.in-Err-fold_body.is c.fold_body.ensures.cause;
}
