use Rattle.conn_core.specs.frame_messages.Checking.{message_in}
use Rattle.conn_core.proofs.reply_frames.Rooms.{hello_as}
use Rattle.conn_core.proofs.reply_frames.room.hello_first.Goals as goal

pub returns-clause-hello : goal.returns-clause-hello
returns-clause-hello c = λ m e.
    hello_as c.args.conn.now.guid c.args.conn.now.salt c.args.asked.now.moment c.message.result.now
    (message_in c.args.asked.now.bytes.items m) c.hello_to.result (c.message.ensures m e) c.hello_to.ensures.hello
