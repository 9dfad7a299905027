use Rattle.spec_world.specs.Answering as answering
use Rattle.std.specs.Prelude.{option_copied}
use Rattle.conn_core.proofs.reply_frames.Putting.{added_by, next_fits, room_shut}
use Rattle.conn_core.proofs.reply_frames.adding.add.Goals as goal

pub end-requires : goal.end-requires
end-requires c = λ shut. room_shut c.put.new.frames c.in_ok-more.more (option_copied c.args.next) shut c.in_ok-more.ensures.room

pub returns-clause-room : goal.returns-clause-room
returns-clause-room c =
    next_fits c.put.new.frames c.end.new.self c.args.nonces.now c.end.new.nonces c.in_ok-more.more (option_copied c.args.next) c.end.result
    c.in_ok-more.ensures.room c.end.ensures.goes_on c.end.ensures.shut

pub returns-clause-adds : goal.returns-clause-adds
returns-clause-adds c = λ first counted guid salt done front g m r n reply follows written shows.
    let x = c.put.new.frames in
    let more = c.in_ok-more.more in
    let sealed = c.args.joining.now.frames.sealed in
    let p = c.in_ok-more.ensures.puts c.args.keys first counted c.args.nonces.now guid salt done front g m r n reply
    follows written shows in
    added_by c.args.keys first counted sealed c.args.nonces.now c.end.new.nonces done front g r n more x c.end.new.self c.put.new.behind
    c.end.result c.put.ensures.sealed p (λ shut. room_shut x more (option_copied c.args.next) shut c.in_ok-more.ensures.room)
    (c.end.ensures.ends first done front (answering.said_text sealed more r) p.written) c.end.ensures.goes_on c.end.ensures.shut
