use Rattle.serve_turns.specs.shared_book.Words.{view_of}
use Rattle.client_channels.proofs.channel_turns.Linking.{pass_on}
use Rattle.client_channels.specs.channel_turns.Links.{on, side_unless}
use Rattle.client_channels.specs.channel_turns.Sides.{Runs, Sends}
use Rattle.client_channels.proofs.channel_turns.lines.send_and_hear.Goals as goal

pub returns-in-None-clause-sends : goal.returns-in-None-clause-sends
returns-in-None-clause-sends g c = λ a.
    let k = c.args.course.now.channel in
    pass_on g.L.Link.told g.L.Link.given g.L.Link.left g.L.Link.written g.L.Link.faults g.L.Link.ended
    (g.G.Gate.bars c.args.gate.now) a k (on (Sends c.args.line.now c.args.request.now) c.args.wire.now.stream c.args.wire.now.link
    (view_of c.args.seat.now).own)
    (on (Runs c.say_request.new.line) c.say_request.new.wire.stream c.say_request.new.wire.link (view_of c.say_request.new.seat).own)
    (on (side_unless c.hear_on.result (Runs c.hear_on.new.line)) c.hear_on.new.wire.stream c.hear_on.new.wire.link
    (view_of c.hear_on.new.seat).own)
    (c.in-None.ensures.says a) (c.hear_on.ensures.hears a)
