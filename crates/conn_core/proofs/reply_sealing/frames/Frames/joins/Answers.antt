use Rattle.std.proofs.Common.{◌-◌, length, refl, subst}
use Rattle.std.specs.Prelude.{option_copied}
use Rattle.spec_world.specs.Answering as answering
use Rattle.conn_core.specs.reply_sealing.Saying.{CanPutIf}
use Rattle.conn_core.proofs.reply_sealing.Rooms.{joins_next}
use Rattle.conn_core.proofs.reply_sealing.frames.Frames.joins.Goals as goal

pub has_room-requires-clause-next : goal.has_room-requires-clause-next
has_room-requires-clause-next c = subst (λ o. CanPutIf (option_copied o)) c.in-Some.is c.requires.next

pub returns-in-None-clause-is : goal.returns-in-None-clause-is
returns-in-None-clause-is c = λ r n said. rw c.in-None.is refl

pub returns-in-Some-clause-room : goal.returns-in-Some-clause-room
returns-in-Some-clause-room c = λ fits. rw c.in-Some.is (c.has_room.ensures.room fits)

pub returns-in-Some-clause-is : goal.returns-in-Some-clause-is
returns-in-Some-clause-is c = λ r n said.
    let x = c.args.self.now in
    rw c.in-Some.is (joins_next (length x.out.items - x.text) (answering.text_limit x.sealed) c.in-Some.next.now r n
    c.has_room.result (λ m follows. c.has_room.ensures.is r m said follows))
