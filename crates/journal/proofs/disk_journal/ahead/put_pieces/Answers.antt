use Rattle.std.proofs.Common.{length, arith, ◌∙◌}
use Rattle.base_outside.specs.declared.streams.failed.Failed.{Failed}
use Rattle.base_outside.specs.streams.Disk.{Torn, WritesAt}
use Rattle.journal.proofs.disk_journal.Forward.{done_of, no_room_of, longer, put_more, put_part, run_more}
use Rattle.journal.proofs.disk_journal.ahead.put_pieces.Goals as goal

pub loop-at-preserved : goal.loop-at-preserved
loop-at-preserved g c = record {
  later = omega (arith, c.loop-at.invariant.later);
  stays = λ told front rest shut ends only.
      put_more g.D.Disk.seen g.D.Disk.may_leave g.D.Disk.moment g.D.Disk.left_since g.met.D.Disk.only_now front c.args.gate shut ends.place ends.closed
      c.args.disk.now c.loop-at.disk (c.loop-at.invariant.stays told front rest shut ends only) c.loop-at.at (length c.args.zeros.now)
      c.loop-at.invariant.later c.write_if_room.new.self c.write_if_room.ensures.crash c.write_if_room.ensures.time c.args.zeros.now
      (done_of Failed c.in-Ok-Done.field-0
      (g.D.Disk.told → WritesAt (g.D.Disk.seen c.loop-at.disk) c.loop-at.at c.args.zeros.now (g.D.Disk.seen c.write_if_room.new.self))
      c.in-Ok-Done.field-0-is c.in-Ok-Done.ensures.written told);
  long = λ told within.
      longer (g.D.Disk.seen c.loop-at.disk) c.loop-at.at c.args.zeros.now (g.D.Disk.seen c.write_if_room.new.self)
      (c.loop-at.invariant.long told within) (done_of Failed c.in-Ok-Done.field-0
      (g.D.Disk.told → WritesAt (g.D.Disk.seen c.loop-at.disk) c.loop-at.at c.args.zeros.now (g.D.Disk.seen c.write_if_room.new.self))
      c.in-Ok-Done.field-0-is c.in-Ok-Done.ensures.written told);
  no_fault = c.in-Ok-Done.ensures.cause ∙ c.loop-at.invariant.no_fault;
}

pub returns-in-Ok-NoRoom-clause-stays : goal.returns-in-Ok-NoRoom-clause-stays
returns-in-Ok-NoRoom-clause-stays g c = λ told front rest shut ends only.
    put_part g.D.Disk.seen g.D.Disk.may_leave g.D.Disk.moment g.D.Disk.left_since g.met.D.Disk.only_now front c.args.gate shut ends.place ends.closed
    c.args.disk.now c.loop-at.disk (c.loop-at.invariant.stays told front rest shut ends only) c.loop-at.at (length c.args.zeros.now)
    c.loop-at.invariant.later c.write_if_room.new.self c.write_if_room.ensures.crash c.write_if_room.ensures.time
    (no_room_of Failed c.in-Ok-NoRoom.field-0
    (g.D.Disk.told → Torn c.loop-at.at (length c.args.zeros.now) (g.D.Disk.seen c.loop-at.disk) (g.D.Disk.seen c.write_if_room.new.self))
    c.in-Ok-NoRoom.field-0-is c.in-Ok-NoRoom.ensures.part told)

pub returns-in-Ok-NoRoom-clause-any_moment : goal.returns-in-Ok-NoRoom-clause-any_moment
returns-in-Ok-NoRoom-clause-any_moment g c = λ told front rest shut ends only.
    let so_far = c.loop-at.invariant.stays told front rest shut ends only in
    run_more g.D.Disk.seen g.D.Disk.may_leave g.D.Disk.moment g.D.Disk.left_since g.met.D.Disk.only_now front c.args.gate shut ends.place ends.closed
    c.args.disk.now c.loop-at.disk so_far c.loop-at.at (length c.args.zeros.now) c.loop-at.invariant.later c.write_if_room.new.self
    c.write_if_room.ensures.crash c.write_if_room.ensures.time

pub returns-in-Err-clause-any_moment : goal.returns-in-Err-clause-any_moment
returns-in-Err-clause-any_moment g c = λ told front rest shut ends only.
    let so_far = c.loop-at.invariant.stays told front rest shut ends only in
    run_more g.D.Disk.seen g.D.Disk.may_leave g.D.Disk.moment g.D.Disk.left_since g.met.D.Disk.only_now front c.args.gate shut ends.place ends.closed
    c.args.disk.now c.loop-at.disk so_far c.loop-at.at (length c.args.zeros.now) c.loop-at.invariant.later c.write_if_room.new.self
    c.write_if_room.ensures.crash c.write_if_room.ensures.time
