use Rattle.std.proofs.Common.{Err, refl, subst}
use Rattle.client_ends.specs.ends.Shown.{token_of}
use Rattle.client_ends.specs.line_calls.Sending.{LineSends}
use Rattle.serve_turns.specs.shared_book.Words.{view_of}
use Rattle.client_channels.proofs.channel_turns.Stepping.{aside_one}
use Rattle.client_channels.proofs.channel_turns.Linking.{pass_aside, pass_on, pass_then}
use Rattle.client_channels.specs.channel_turns.Asides.{Moves}
use Rattle.client_channels.specs.channel_turns.Links.{on, side_unless}
use Rattle.client_channels.specs.channel_turns.Sides.{Breaks, Ends, Runs, Says, Sends}
use Rattle.client_channels.proofs.channel_turns.Hearing.{line_goes, line_spent}
use Rattle.client_channels.proofs.channel_turns.lines.say_request.Goals as goal

pub returns-in-Ok-clause-says : goal.returns-in-Ok-clause-says
returns-in-Ok-clause-says g c = λ a.
    let before = Sends c.args.line.now c.args.request.now in
    let said = Says c.in-Ok.frame (Runs c.send.new.line) in
    pass_on g.L.Link.told g.L.Link.given g.L.Link.left g.L.Link.written g.L.Link.faults g.L.Link.ended
    (g.G.Gate.bars c.args.gate.now) a c.args.channel
    (on before c.args.wire.now.stream c.args.wire.now.link (view_of c.args.seat.now).own)
    (on said c.args.wire.now.stream c.args.wire.now.link (view_of c.args.seat.now).own)
    (on (side_unless c.put.result (Runs c.send.new.line)) c.put.new.wire.stream c.put.new.wire.link (view_of c.put.new.seat).own)
    (pass_aside g.L.Link.told g.L.Link.given g.L.Link.left g.L.Link.written g.L.Link.faults g.L.Link.ended
    (g.G.Gate.bars c.args.gate.now) a c.args.channel before said c.args.wire.now.stream c.args.wire.now.link
    (view_of c.args.seat.now).own (view_of c.args.seat.now).own
    (aside_one a c.args.channel Moves before said (view_of c.args.seat.now).own (view_of c.args.seat.now).own
    (line_goes c.args.line.now c.args.request.now c.in-Ok.frame c.send.new.line c.in-Ok.ensures.sends c.in-Ok.ensures.counts, refl)))
    (c.put.ensures.puts a c.send.new.line)

pub returns-in-Err-Spent-clause-says : goal.returns-in-Err-Spent-clause-says
returns-in-Err-Spent-clause-says g c = λ a.
    let before = Sends c.args.line.now c.args.request.now in
    pass_then g.L.Link.told g.L.Link.given g.L.Link.left g.L.Link.written g.L.Link.faults g.L.Link.ended
    (g.G.Gate.bars c.args.gate.now) a c.args.channel
    (on before c.args.wire.now.stream c.args.wire.now.link (view_of c.args.seat.now).own) Breaks Ends c.args.wire.now.stream
    c.args.wire.now.link (view_of c.args.seat.now).own (view_of c.cut.new.seat).own
    (pass_aside g.L.Link.told g.L.Link.given g.L.Link.left g.L.Link.written g.L.Link.faults g.L.Link.ended
    (g.G.Gate.bars c.args.gate.now) a c.args.channel before Breaks c.args.wire.now.stream c.args.wire.now.link
    (view_of c.args.seat.now).own (view_of c.args.seat.now).own
    (aside_one a c.args.channel Moves before Breaks (view_of c.args.seat.now).own (view_of c.args.seat.now).own (
      line_spent c.args.line.now c.args.request.now c.send.new.line
          (λ n m charge s is next. subst (λ e. LineSends n m charge (token_of c.args.request.now.token) c.send.new.line (Err e))
          c.in-Err-Spent.field-0-is (c.in-Err-Spent.ensures.sends n m charge s is next)),
      refl,
    )))
    (c.cut.ensures.cuts a)

pub returns-in-Err-Memory-clause-says : goal.returns-in-Err-Memory-clause-says
returns-in-Err-Memory-clause-says g c = λ a.
    let before = Sends c.args.line.now c.args.request.now in
    pass_aside g.L.Link.told g.L.Link.given g.L.Link.left g.L.Link.written g.L.Link.faults g.L.Link.ended
    (g.G.Gate.bars c.args.gate.now) a c.args.channel before Ends c.args.wire.now.stream c.args.wire.now.link
    (view_of c.args.seat.now).own (view_of c.lack.new.seat).own (c.lack.ensures.lacks a c.args.channel before)

pub returns-in-Err-NoCredit-clause-says : goal.returns-in-Err-NoCredit-clause-says
returns-in-Err-NoCredit-clause-says g c = λ a.
    let before = Sends c.args.line.now c.args.request.now in
    pass_aside g.L.Link.told g.L.Link.given g.L.Link.left g.L.Link.written g.L.Link.faults g.L.Link.ended
    (g.G.Gate.bars c.args.gate.now) a c.args.channel before Ends c.args.wire.now.stream c.args.wire.now.link
    (view_of c.args.seat.now).own (view_of c.lack-in-Err-NoCredit.new.seat).own (c.lack-in-Err-NoCredit.ensures.lacks a c.args.channel before)

pub returns-in-Err-BadReply-clause-says : goal.returns-in-Err-BadReply-clause-says
returns-in-Err-BadReply-clause-says g c = λ a.
    let before = Sends c.args.line.now c.args.request.now in
    pass_aside g.L.Link.told g.L.Link.given g.L.Link.left g.L.Link.written g.L.Link.faults g.L.Link.ended
    (g.G.Gate.bars c.args.gate.now) a c.args.channel before Ends c.args.wire.now.stream c.args.wire.now.link
    (view_of c.args.seat.now).own (view_of c.lack-in-Err-BadReply.new.seat).own (c.lack-in-Err-BadReply.ensures.lacks a c.args.channel before)
