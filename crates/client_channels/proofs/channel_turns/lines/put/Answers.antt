use Rattle.std.proofs.Common.{subst, sym}
use Rattle.serve_turns.specs.shared_book.Words.{view_of}
use Rattle.client_channels.proofs.channel_turns.Linking.{pass_aside, pass_then, said_part, said_whole}
use Rattle.client_channels.specs.channel_turns.Links.{Passes, on}
use Rattle.client_channels.specs.channel_turns.Sides.{Ends, Says, Runs, Breaks}
use Rattle.client_channels.proofs.channel_turns.lines.put.Goals as goal

pub returns-in-Whole-clause-puts : goal.returns-in-Whole-clause-puts
returns-in-Whole-clause-puts g c = λ a l.
    said_whole g.L.Link.told g.L.Link.given g.L.Link.left g.L.Link.written g.L.Link.faults g.L.Link.ended
    (g.G.Gate.bars c.args.gate.now) a c.args.channel (Runs l) c.args.frame.now c.args.wire.now.stream c.args.wire.now.link
    c.say.new.link (view_of c.args.seat.now).own c.in-Whole.ensures

pub returns-in-Lost-clause-puts : goal.returns-in-Lost-clause-puts
returns-in-Lost-clause-puts g c = λ a l.
    pass_then g.L.Link.told g.L.Link.given g.L.Link.left g.L.Link.written g.L.Link.faults g.L.Link.ended
    (g.G.Gate.bars c.args.gate.now) a c.args.channel
    (on (Says c.args.frame.now (Runs l)) c.args.wire.now.stream c.args.wire.now.link (view_of c.args.seat.now).own) Breaks Ends
    c.args.wire.now.stream c.say.new.link
    (view_of c.args.seat.now).own (view_of c.cut.new.seat).own
    (said_part g.L.Link.told g.L.Link.given g.L.Link.left g.L.Link.written g.L.Link.faults g.L.Link.ended
    (g.G.Gate.bars c.args.gate.now) a c.args.channel (Runs l) c.args.frame.now c.args.wire.now.stream c.args.wire.now.link
    c.say.new.link (view_of c.args.seat.now).own c.in-Lost.ensures)
    (c.cut.ensures.cuts a)

pub returns-in-Lack-clause-puts : goal.returns-in-Lack-clause-puts
returns-in-Lack-clause-puts g c = λ a l.
    subst (λ link. Passes g.L.Link.told g.L.Link.given g.L.Link.left g.L.Link.written g.L.Link.faults g.L.Link.ended
    (g.G.Gate.bars c.args.gate.now) a c.args.channel
    (on (Says c.args.frame.now (Runs l)) c.args.wire.now.stream c.args.wire.now.link (view_of c.args.seat.now).own)
    (on Ends c.args.wire.now.stream link (view_of c.lack.new.seat).own))
    (sym c.in-Lack.ensures)
    (pass_aside g.L.Link.told g.L.Link.given g.L.Link.left g.L.Link.written g.L.Link.faults g.L.Link.ended
    (g.G.Gate.bars c.args.gate.now) a c.args.channel (Says c.args.frame.now (Runs l)) Ends c.args.wire.now.stream
    c.args.wire.now.link (view_of c.args.seat.now).own (view_of c.lack.new.seat).own
    (c.lack.ensures.lacks a c.args.channel (Says c.args.frame.now (Runs l))))
