use Rattle.std.proofs.Common.{sym, subst}
use Rattle.conn_core.specs.Shown.{ShowsEnd}
use Rattle.conn_core.specs.reply_frames.Replying.{walk_replied}
use Rattle.conn_core.proofs.reply_frames.Finally.{answers_same, shows_room}
use Rattle.conn_core.proofs.reply_frames.answering.answer_by.Goals as goal

pub join_all-requires-clause-none : goal.join_all-requires-clause-none
join_all-requires-clause-none c = c.in_ok-room.ensures.none

pub returns-clause-answers : goal.returns-clause-answers
returns-clause-answers c = λ z s L f cs ss w shows a hello.
    let old = c.args.conn.now in
    let mid = c.room_for.new.conn in
    let same = c.room_for.ensures.same in
    answers_same old.id mid.id z.guid (walk_replied s L f c.args.asked.now.sealed w ss) c.join_all.new.conn c.join_all.result same.0
    (c.join_all.ensures.answers z s L f cs ss w
    (shows_room mid.id z.guid old mid f same (subst (λ n. ShowsEnd n z.guid old f) (sym same.0) shows)) a hello)
