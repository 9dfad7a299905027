use Rattle.conn_core.proofs.reply_frames.Putting.{put_is}
use Rattle.conn_core.proofs.reply_frames.adding.put.Goals as goal

pub returns-clause-puts : goal.returns-clause-puts
returns-clause-puts c = λ keys first counted nonces guid salt done front g m r n reply follows written shows.
    put_is keys first counted c.args.frames.now.sealed nonces done front g r n c.in_ok-placed.placed c.place.new.self c.go_on.new.self
    c.bytes.result.now c.bytes.ensures
    (c.in_ok-placed.ensures.placed keys first nonces done front r n written reply.said_is follows)
    (c.go_on.ensures counted guid salt g m r shows reply.said_is reply.sound reply.message reply.going reply.hello)
