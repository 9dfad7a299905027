use Rattle.std.proofs.Common.{ℕ, subst}
use Rattle.serve_turns.specs.shared_book.Words.{view_of}
use Rattle.client_channels.proofs.channel_turns.Linking.{came_frame, came_lack, came_over, pass_on, pass_then}
use Rattle.client_channels.specs.channel_turns.Asides.{Asides}
use Rattle.client_channels.specs.channel_turns.Links.{Passes, on, talked_side}
use Rattle.client_channels.specs.channel_turns.Sides.{Ends, Leaves, Lost, Talks}
use Rattle.client_channels.proofs.channel_turns.dialogs.talk_on.Goals as goal

pub returns-in-Frame-clause-talks : goal.returns-in-Frame-clause-talks
returns-in-Frame-clause-talks g c =
    let k = c.args.course.now.channel in
    let h = c.hear_message.ensures.hears in
    pass_on g.L.Link.told g.L.Link.given g.L.Link.left g.L.Link.written g.L.Link.faults g.L.Link.ended
    (g.G.Gate.bars c.args.gate.now) c.args.aim.now k
    (on (Talks c.args.dialog.now) c.args.wire.now.stream c.args.wire.now.link (view_of c.args.seat.now).own)
    (on h.0 c.next_frame.new.wire.stream c.next_frame.new.wire.link (view_of c.args.seat.now).own)
    (on (talked_side c.hear_message.result (Talks c.hear_message.new.dialog)) c.hear_message.new.wire.stream c.hear_message.new.wire.link
    (view_of c.hear_message.new.seat).own)
    (came_frame g.L.Link.told g.L.Link.given g.L.Link.left g.L.Link.written g.L.Link.faults g.L.Link.ended
    (g.G.Gate.bars c.args.gate.now) c.args.aim.now k (Talks c.args.dialog.now) h.0 c.in-Frame.message c.args.wire.now.stream
    c.next_frame.new.wire.stream c.args.wire.now.link
    c.next_frame.new.wire.link (view_of c.args.seat.now).own tt c.in-Frame.ensures.comes h.1)
    (subst (λ (n : ℕ). Passes g.L.Link.told g.L.Link.given g.L.Link.left g.L.Link.written g.L.Link.faults g.L.Link.ended
    (g.G.Gate.bars c.args.gate.now) c.args.aim.now n
    (on h.0 c.next_frame.new.wire.stream c.next_frame.new.wire.link (view_of c.args.seat.now).own)
    (on (talked_side c.hear_message.result (Talks c.hear_message.new.dialog)) c.hear_message.new.wire.stream c.hear_message.new.wire.link
    (view_of c.hear_message.new.seat).own)) c.next_frame.ensures.kept.0 h.2)

pub returns-in-Over-clause-talks : goal.returns-in-Over-clause-talks
returns-in-Over-clause-talks g c =
    let k = c.args.course.now.channel in
    let ends = subst (λ (n : ℕ). Asides c.args.aim.now n Leaves (view_of c.args.seat.now).own Ends (view_of c.left.new.seat).own)
    c.next_frame.ensures.kept.0
    (c.left.ensures.leaves c.args.aim.now) in
    pass_then g.L.Link.told g.L.Link.given g.L.Link.left g.L.Link.written g.L.Link.faults g.L.Link.ended
    (g.G.Gate.bars c.args.gate.now) c.args.aim.now k
    (on (Talks c.args.dialog.now) c.args.wire.now.stream c.args.wire.now.link (view_of c.args.seat.now).own) Leaves Ends
    c.next_frame.new.wire.stream c.next_frame.new.wire.link
    (view_of c.args.seat.now).own (view_of c.left.new.seat).own
    (came_over g.L.Link.told g.L.Link.given g.L.Link.left g.L.Link.written g.L.Link.faults g.L.Link.ended
    (g.G.Gate.bars c.args.gate.now) c.args.aim.now k (Talks c.args.dialog.now) c.args.wire.now.stream c.next_frame.new.wire.stream
    c.args.wire.now.link c.next_frame.new.wire.link (view_of c.args.seat.now).own tt
    c.in-Over.ensures.comes) ends

pub returns-in-Lack-clause-talks : goal.returns-in-Lack-clause-talks
returns-in-Lack-clause-talks g c =
    let k = c.args.course.now.channel in
    pass_then g.L.Link.told g.L.Link.given g.L.Link.left g.L.Link.written g.L.Link.faults g.L.Link.ended
    (g.G.Gate.bars c.args.gate.now) c.args.aim.now k
    (on (Talks c.args.dialog.now) c.args.wire.now.stream c.args.wire.now.link (view_of c.args.seat.now).own) Lost Ends
    c.next_frame.new.wire.stream c.next_frame.new.wire.link
    (view_of c.args.seat.now).own (view_of c.lack.new.seat).own
    (came_lack g.L.Link.told g.L.Link.given g.L.Link.left g.L.Link.written g.L.Link.faults g.L.Link.ended
    (g.G.Gate.bars c.args.gate.now) c.args.aim.now k (Talks c.args.dialog.now) c.args.wire.now.stream c.next_frame.new.wire.stream
    c.args.wire.now.link c.next_frame.new.wire.link (view_of c.args.seat.now).own tt
    c.in-Lack.ensures.comes) (c.lack.ensures.lacks c.args.aim.now k Lost)
