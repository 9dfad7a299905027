use Rattle.conn_core.proofs.message_replies.Parts.{header_due}
use Rattle.conn_core.proofs.message_replies.plain.reply_header.Goals as goal

pub returns-clause-flags : goal.returns-clause-flags
returns-clause-flags c = c.flags_of.ensures.few

pub returns-clause-header : goal.returns-clause-header
returns-clause-header c = λ x like.
    let named = c.args.named in
    header_due x c.args.checked.now named.status named.session named.tree c.args.credits c.flags_of.result like c.flags_of.ensures.is
