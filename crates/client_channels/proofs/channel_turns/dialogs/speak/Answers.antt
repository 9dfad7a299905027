use Rattle.std.proofs.Common.{subst, sym}
use Rattle.serve_turns.specs.shared_book.Words.{view_of}
use Rattle.client_channels.proofs.channel_turns.Linking.{pass_aside, pass_then, said_part, said_whole}
use Rattle.client_channels.specs.channel_turns.Links.{Passes, on}
use Rattle.client_channels.specs.channel_turns.Sides.{Ends, Says, Talks, Leaves}
use Rattle.client_channels.proofs.channel_turns.dialogs.speak.Goals as goal

pub returns-in-Whole-clause-speaks : goal.returns-in-Whole-clause-speaks
returns-in-Whole-clause-speaks g c = λ a d.
    said_whole g.L.Link.told g.L.Link.given g.L.Link.left g.L.Link.written g.L.Link.faults g.L.Link.ended
    (g.G.Gate.bars c.args.gate.now) a c.args.channel (Talks d) c.args.message.now c.args.wire.now.stream c.args.wire.now.link
    c.say.new.link (view_of c.args.seat.now).own c.in-Whole.ensures

pub returns-in-Lost-clause-speaks : goal.returns-in-Lost-clause-speaks
returns-in-Lost-clause-speaks g c = λ a d.
    pass_then g.L.Link.told g.L.Link.given g.L.Link.left g.L.Link.written g.L.Link.faults g.L.Link.ended
    (g.G.Gate.bars c.args.gate.now) a c.args.channel
    (on (Says c.args.message.now (Talks d)) c.args.wire.now.stream c.args.wire.now.link (view_of c.args.seat.now).own) Leaves Ends
    c.args.wire.now.stream c.say.new.link
    (view_of c.args.seat.now).own (view_of c.left.new.seat).own
    (said_part g.L.Link.told g.L.Link.given g.L.Link.left g.L.Link.written g.L.Link.faults g.L.Link.ended
    (g.G.Gate.bars c.args.gate.now) a c.args.channel (Talks d) c.args.message.now c.args.wire.now.stream c.args.wire.now.link
    c.say.new.link (view_of c.args.seat.now).own c.in-Lost.ensures)
    (c.left.ensures.leaves a)

pub returns-in-Lack-clause-speaks : goal.returns-in-Lack-clause-speaks
returns-in-Lack-clause-speaks g c = λ a d.
    subst (λ link. Passes g.L.Link.told g.L.Link.given g.L.Link.left g.L.Link.written g.L.Link.faults g.L.Link.ended
    (g.G.Gate.bars c.args.gate.now) a c.args.channel
    (on (Says c.args.message.now (Talks d)) c.args.wire.now.stream c.args.wire.now.link (view_of c.args.seat.now).own)
    (on Ends c.args.wire.now.stream link (view_of c.lack.new.seat).own))
    (sym c.in-Lack.ensures)
    (pass_aside g.L.Link.told g.L.Link.given g.L.Link.left g.L.Link.written g.L.Link.faults g.L.Link.ended
    (g.G.Gate.bars c.args.gate.now) a c.args.channel (Says c.args.message.now (Talks d)) Ends c.args.wire.now.stream
    c.args.wire.now.link (view_of c.args.seat.now).own (view_of c.lack.new.seat).own
    (c.lack.ensures.lacks a c.args.channel (Says c.args.message.now (Talks d))))
