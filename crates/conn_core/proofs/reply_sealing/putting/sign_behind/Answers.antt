use Rattle.std.proofs.Common.{length-drop, arith}
use Rattle.std.proofs.lemmas.List.{take_rest}
use Rattle.conn_core.proofs.reply_sealing.Parts.{signed_behind}
use Rattle.conn_core.proofs.reply_sealing.putting.sign_behind.Goals as goal

pub sign_message-requires-clause-whole : goal.sign_message-requires-clause-whole
sign_message-requires-clause-whole c =
    let size = length-drop c.args.start c.args.out.now in
    let whole = c.requires.whole in
    rw (take_rest c.args.out.now c.args.start) (omega arith)

pub sign_message-requires-clause-short : goal.sign_message-requires-clause-short
sign_message-requires-clause-short c =
    let size = length-drop c.args.start c.args.out.now in
    let whole = c.requires.whole in
    let short = c.requires.short in
    rw (take_rest c.args.out.now c.args.start) (omega arith)

pub returns : goal.returns
returns c =
    let whole = c.requires.whole in
    signed_behind c.args.start c.args.out.now c.sign_message.new.message c.args.signer.now (omega arith) c.sign_message.ensures
