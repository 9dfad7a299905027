use Rattle.conn_core.specs.reply_frames.Replying.{walk_replied}
use Rattle.conn_core.proofs.reply_frames.Finally.{replies_err}
use Rattle.conn_core.proofs.reply_frames.answering.answer.Goals as goal

pub returns-in-Err-clause-answers : goal.returns-in-Err-clause-answers
returns-in-Err-clause-answers c = λ z s L f cs ss w shows a.
    replies_err c.args.conn.now.id z.guid (walk_replied s L f c.args.asked.now.sealed w ss) c.answered_with.new.conn c.in-Err.why
    (c.in-Err.ensures.answers z s L f cs ss w shows a)

pub returns-in-Ok-clause-answers : goal.returns-in-Ok-clause-answers
returns-in-Ok-clause-answers c = λ z s L f cs ss w shows a. (c.in-Ok.ensures.answers z s L f cs ss w shows a).0
