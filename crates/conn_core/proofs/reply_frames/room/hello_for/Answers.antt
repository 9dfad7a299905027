use Rattle.std.proofs.Common.{◌∙◌, sym}
use Rattle.conn_core.proofs.reply_frames.Rooms.{hello_by, hello_none, some_greets}
use Rattle.conn_core.proofs.reply_frames.room.hello_for.Goals as goal

pub hello_first-requires : goal.hello_first-requires
hello_first-requires c = c.requires 0 (some_greets c.args.asked.now.messages.items (sym c.greets.ensures ∙ c.if-greets.true))

pub returns-in-Ok-clause-hello : goal.returns-in-Ok-clause-hello
returns-in-Ok-clause-hello c = λ guid f cs shows taken.
    let x = c.args.asked.now in
    let has = c.requires 0 (some_greets x.messages.items (sym c.greets.ensures ∙ c.if-greets.true)) in
    hello_by c.args.conn.now.guid c.args.conn.now.salt guid f.salt x.moment x.bytes.items x.messages.items cs has.0
    c.in-Ok.hello shows.server
    shows.salt taken has.1 (sym c.greets.ensures ∙ c.if-greets.true) (c.in-Ok.ensures.hello has.0 has.1)

pub returns-else-greets-clause-hello : goal.returns-else-greets-clause-hello
returns-else-greets-clause-hello c = λ guid f cs shows taken.
    hello_none guid f.salt c.args.asked.now.moment c.args.asked.now.bytes.items c.args.asked.now.messages.items cs taken
    (sym c.greets.ensures ∙ c.if-greets.false)
