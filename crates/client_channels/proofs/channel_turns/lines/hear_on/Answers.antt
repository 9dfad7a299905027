use Rattle.std.proofs.Common.{ℕ, subst}
use Rattle.serve_turns.specs.shared_book.Words.{view_of}
use Rattle.client_channels.proofs.channel_turns.Linking.{came_frame, came_lack, came_over, pass_then}
use Rattle.client_channels.specs.channel_turns.Asides.{Asides}
use Rattle.client_channels.specs.channel_turns.Links.{on, side_unless}
use Rattle.client_channels.specs.channel_turns.Sides.{Breaks, Ends, Lost, Runs}
use Rattle.client_channels.proofs.channel_turns.lines.hear_on.Goals as goal

pub returns-in-Frame-clause-hears : goal.returns-in-Frame-clause-hears
returns-in-Frame-clause-hears g c = λ a.
    let k = c.args.course.now.channel in
    let h = c.hear_message.ensures.hears a in
    let after = side_unless c.hear_message.result (Runs c.hear_message.new.line) in
    let turns = subst (λ (n : ℕ). Asides a n h.0 (view_of c.args.seat.now).own after (view_of c.hear_message.new.seat).own)
    c.next_frame.ensures.kept.0 h.2 in
    pass_then g.L.Link.told g.L.Link.given g.L.Link.left g.L.Link.written g.L.Link.faults g.L.Link.ended
    (g.G.Gate.bars c.args.gate.now) a k (on (Runs c.args.line.now) c.args.wire.now.stream c.args.wire.now.link
    (view_of c.args.seat.now).own) h.0 after c.next_frame.new.wire.stream c.next_frame.new.wire.link (view_of c.args.seat.now).own
    (view_of c.hear_message.new.seat).own
    (came_frame g.L.Link.told g.L.Link.given g.L.Link.left g.L.Link.written g.L.Link.faults g.L.Link.ended
    (g.G.Gate.bars c.args.gate.now) a k (Runs c.args.line.now) h.0 c.in-Frame.message c.args.wire.now.stream
    c.next_frame.new.wire.stream c.args.wire.now.link c.next_frame.new.wire.link (view_of c.args.seat.now).own tt
    c.in-Frame.ensures.comes h.1) turns

pub returns-in-Over-clause-hears : goal.returns-in-Over-clause-hears
returns-in-Over-clause-hears g c = λ a.
    let k = c.args.course.now.channel in
    let ends = subst (λ (n : ℕ). Asides a n Breaks (view_of c.args.seat.now).own Ends (view_of c.cut.new.seat).own)
    c.next_frame.ensures.kept.0 (c.cut.ensures.cuts a) in
    pass_then g.L.Link.told g.L.Link.given g.L.Link.left g.L.Link.written g.L.Link.faults g.L.Link.ended
    (g.G.Gate.bars c.args.gate.now) a k (on (Runs c.args.line.now) c.args.wire.now.stream c.args.wire.now.link
    (view_of c.args.seat.now).own) Breaks Ends c.next_frame.new.wire.stream c.next_frame.new.wire.link (view_of c.args.seat.now).own
    (view_of c.cut.new.seat).own
    (came_over g.L.Link.told g.L.Link.given g.L.Link.left g.L.Link.written g.L.Link.faults g.L.Link.ended
    (g.G.Gate.bars c.args.gate.now) a k (Runs c.args.line.now) c.args.wire.now.stream c.next_frame.new.wire.stream
    c.args.wire.now.link c.next_frame.new.wire.link (view_of c.args.seat.now).own tt c.in-Over.ensures.comes) ends

pub returns-in-Lack-clause-hears : goal.returns-in-Lack-clause-hears
returns-in-Lack-clause-hears g c = λ a.
    let k = c.args.course.now.channel in
    pass_then g.L.Link.told g.L.Link.given g.L.Link.left g.L.Link.written g.L.Link.faults g.L.Link.ended
    (g.G.Gate.bars c.args.gate.now) a k (on (Runs c.args.line.now) c.args.wire.now.stream c.args.wire.now.link
    (view_of c.args.seat.now).own) Lost Ends c.next_frame.new.wire.stream c.next_frame.new.wire.link (view_of c.args.seat.now).own
    (view_of c.lack.new.seat).own
    (came_lack g.L.Link.told g.L.Link.given g.L.Link.left g.L.Link.written g.L.Link.faults g.L.Link.ended
    (g.G.Gate.bars c.args.gate.now) a k (Runs c.args.line.now) c.args.wire.now.stream c.next_frame.new.wire.stream
    c.args.wire.now.link c.next_frame.new.wire.link (view_of c.args.seat.now).own tt c.in-Lack.ensures.comes)
    (c.lack.ensures.lacks a k Lost)
