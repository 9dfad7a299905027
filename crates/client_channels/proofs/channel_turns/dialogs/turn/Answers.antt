use Rattle.std.proofs.Common.{sym, subst}
use Rattle.serve_turns.specs.shared_book.Words.{view_of}
use Rattle.client_channels.proofs.channel_turns.Linking.{pass_aside}
use Rattle.client_channels.specs.channel_turns.Links.{Passes, on, talked_side}
use Rattle.client_channels.specs.channel_turns.Sides.{Ends, IsDenied, IsReady, Says, Side, Talks}
use Rattle.client_channels.proofs.channel_turns.dialogs.turn.Goals as goal

pub returns-in-Say-clause-turns : goal.returns-in-Say-clause-turns
returns-in-Say-clause-turns g c =
    rw c.in-Say.is
    (subst (λ (s : Side). Passes g.L.Link.told g.L.Link.given g.L.Link.left g.L.Link.written g.L.Link.faults g.L.Link.ended
    (g.G.Gate.bars c.args.gate.now) c.args.aim.now c.args.course.now.channel
    (on (Says c.in-Say.message (Talks c.args.dialog.now)) c.args.wire.now.stream c.args.wire.now.link (view_of c.args.seat.now).own)
    (on s c.speak.new.wire.stream c.speak.new.wire.link (view_of c.speak.new.seat).own))
    (sym (c.talked_by.ensures (Talks c.args.dialog.now)))
    (c.speak.ensures.speaks c.args.aim.now c.args.dialog.now))

pub returns-in-Accepted-clause-turns : goal.returns-in-Accepted-clause-turns
returns-in-Accepted-clause-turns g c = rw c.in-Accepted.is c.accept_or_join.ensures.accepts

pub returns-in-Ready-clause-turns : goal.returns-in-Ready-clause-turns
returns-in-Ready-clause-turns g c =
    rw c.in-Ready.is
    (subst (λ (s : Side). Passes g.L.Link.told g.L.Link.given g.L.Link.left g.L.Link.written g.L.Link.faults g.L.Link.ended
    (g.G.Gate.bars c.args.gate.now) c.args.aim.now c.args.course.now.channel
    (on (IsReady c.in-Ready.line c.in-Ready.session c.in-Ready.tree) c.args.wire.now.stream c.args.wire.now.link
    (view_of c.args.seat.now).own)
    (on s c.args.wire.now.stream c.args.wire.now.link (view_of c.ready.new.seat).own))
    (sym (c.ready.ensures.ends (Talks c.args.dialog.now)))
    (pass_aside g.L.Link.told g.L.Link.given g.L.Link.left g.L.Link.written g.L.Link.faults g.L.Link.ended
    (g.G.Gate.bars c.args.gate.now) c.args.aim.now c.args.course.now.channel
    (IsReady c.in-Ready.line c.in-Ready.session c.in-Ready.tree)
    (talked_side c.ready.result Ends) c.args.wire.now.stream c.args.wire.now.link (view_of c.args.seat.now).own
    (view_of c.ready.new.seat).own (c.ready.ensures.readies c.args.aim.now)))

pub returns-in-Refused-clause-turns : goal.returns-in-Refused-clause-turns
returns-in-Refused-clause-turns g c =
    rw c.in-Refused.is
    (pass_aside g.L.Link.told g.L.Link.given g.L.Link.left g.L.Link.written g.L.Link.faults g.L.Link.ended
    (g.G.Gate.bars c.args.gate.now) c.args.aim.now c.args.course.now.channel (IsDenied c.in-Refused.why) Ends c.args.wire.now.stream
    c.args.wire.now.link (view_of c.args.seat.now).own
    (view_of c.refuse.new.seat).own c.refuse.ensures.refuses)
