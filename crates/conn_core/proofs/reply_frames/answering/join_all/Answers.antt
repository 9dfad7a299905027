use Rattle.std.proofs.Common.{◌∙◌, None, refl}
use Rattle.conn_core.proofs.reply_frames.Finally.{counted_by, due_of, end_counted, fails_by, goes_of, goes_with, joined}
use Rattle.conn_core.proofs.reply_frames.answering.join_all.Goals as goal

pub returns-in-Err-clause-answers : goal.returns-in-Err-clause-answers
returns-in-Err-clause-answers c = λ z s L f cs ss w shows a hello.
    let answers = c.args.answers.now in
    let sealed = answers.asked.now.sealed in
    let conn = c.args.conn.now in
    let counted = counted_by sealed conn.nonces ss in
    let g = end_counted sealed f ss w in
    fails_by z s L f g cs ss w answers conn.nonces counted c.add_all.new.conn c.add_all.new.conn c.add_all.new.joining
    conn.id z.guid c.in-Err.why
    shows.counter a
    (c.in-Err.ensures.all z counted f g cs ss w
    (due_of z f cs ss w answers conn (record {
      frames = c.new.result;
      behind = record { logon = conn.logon; channel = None };
    }) shows a hello refl))

pub returns-in-Ok-clause-answers : goal.returns-in-Ok-clause-answers
returns-in-Ok-clause-answers c = λ z s L f cs ss w shows a hello.
    let answers = c.args.answers.now in
    let sealed = answers.asked.now.sealed in
    let conn = c.args.conn.now in
    let mid = c.add_all.new.conn in
    let done = c.add_all.new.joining in
    let told = c.in-Ok.ensures.all z (counted_by sealed conn.nonces ss) f (end_counted sealed f ss w) cs ss w
    (due_of z f cs ss w answers conn (record {
      frames = c.new.result;
      behind = record { logon = conn.logon; channel = None };
    }) shows a hello refl) in
    goes_with z s L f cs ss w answers conn c.finish.new.conn done.frames mid.nonces done.behind c.finish.result
    shows a
    (joined f sealed ss w conn.nonces done.frames mid.nonces done.behind shows.channel shows.counter told.joins)
    (goes_of conn mid c.finish.new.conn done.behind w c.add_all.ensures.alike told.window c.finish.ensures.same c.finish.ensures.nonces)
    c.finish.ensures.told.0 (c.finish.ensures.told.1 ∙ told.status_is)
