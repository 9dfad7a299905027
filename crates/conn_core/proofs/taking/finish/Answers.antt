use Rattle.std.proofs.Common.{sym, ◌∙◌}
use Rattle.conn_core.specs.reply_frames.Replying.{walk_replied}
use Rattle.conn_core.proofs.Composed.{finish_not, finish_with}
use Rattle.conn_core.proofs.taking.finish.Goals as goal

pub returns-in-Ok-clause-finishes : goal.returns-in-Ok-clause-finishes
returns-in-Ok-clause-finishes c = λ z s L f cs ss w shows a.
    finish_with c.args.conn.now.id z.guid (walk_replied s L f c.args.asked.now.sealed w ss) c.args.dealt.now
    c.answered_with.new.conn c.in-Ok.answered
    c.taken_of.result c.taken_of.ensures (c.in-Ok.ensures.answers z s L f cs ss w shows a)

pub returns-in-Err-clause-finishes : goal.returns-in-Err-clause-finishes
returns-in-Err-clause-finishes c = λ z s L f cs ss w shows a.
    finish_not c.args.conn.now.id z.guid (walk_replied s L f c.args.asked.now.sealed w ss) c.args.dealt.now
    c.answered_with.new.conn c.in-Err.why
    c.end_of.result c.end_of.ensures (c.in-Err.ensures.answers z s L f cs ss w shows a)

pub returns-in-Ok-clause-spare : goal.returns-in-Ok-clause-spare
returns-in-Ok-clause-spare c = λ none. c.in-Ok.ensures.spare (sym c.taken_of.ensures.4 ∙ none)

pub returns-in-Err-clause-spare : goal.returns-in-Err-clause-spare
returns-in-Err-clause-spare c = λ none. c.in-Err.ensures.spare (sym c.end_of.ensures.lacked ∙ none)
