use Rattle.std.proofs.Common.{ℕ, ap, refl}
use Rattle.serve_turns.specs.shared_book.Words.{view_of}
use Rattle.client_channels.proofs.channel_turns.Stepping.{aside_turn}
use Rattle.client_channels.proofs.channel_turns.Linking.{pass_aside, pass_on}
use Rattle.client_channels.specs.channel_turns.Links.{on, side_unless}
use Rattle.client_channels.specs.channel_turns.Sides.{Ends, Runs, Sends}
use Rattle.client_book.specs.declared.turn.Told.TheVariants as tells
use Rattle.client_book.specs.declared.turn.Turn.TheVariants as turns
use Rattle.client_channels.proofs.channel_turns.lines.push_on.Goals as goal

pub returns-in-Done-clause-pushes : goal.returns-in-Done-clause-pushes
returns-in-Done-clause-pushes g c = λ a.
    let k = c.args.course.now.channel in
    let before = Runs c.args.line.now in
    let turned = aside_turn a k before Ends (view_of c.args.seat.now).own (view_of c.push.new.seat).own
    (turns.Push k c.credits-credits.result) tells.Done c.in-Done.ensures.turns
    (ap (λ (n : ℕ). turns.Push k n) c.credits-credits.ensures, refl) in
    pass_aside g.L.Link.told g.L.Link.given g.L.Link.left g.L.Link.written g.L.Link.faults g.L.Link.ended
    (g.G.Gate.bars c.args.gate.now) a k before Ends c.args.wire.now.stream c.args.wire.now.link (view_of c.args.seat.now).own
    (view_of c.push.new.seat).own turned

pub returns-in-Stop-clause-pushes : goal.returns-in-Stop-clause-pushes
returns-in-Stop-clause-pushes g c = λ a.
    let k = c.args.course.now.channel in
    let before = Runs c.args.line.now in
    let turned = aside_turn a k before Ends (view_of c.args.seat.now).own (view_of c.push.new.seat).own
    (turns.Push k c.credits-credits.result) tells.Stop c.in-Stop.ensures.turns
    (ap (λ (n : ℕ). turns.Push k n) c.credits-credits.ensures, refl) in
    pass_aside g.L.Link.told g.L.Link.given g.L.Link.left g.L.Link.written g.L.Link.faults g.L.Link.ended
    (g.G.Gate.bars c.args.gate.now) a k before Ends c.args.wire.now.stream c.args.wire.now.link (view_of c.args.seat.now).own
    (view_of c.push.new.seat).own turned

pub returns-in-Close-clause-pushes : goal.returns-in-Close-clause-pushes
returns-in-Close-clause-pushes g c = λ a.
    let k = c.args.course.now.channel in
    let before = Runs c.args.line.now in
    let turned = aside_turn a k before Ends (view_of c.args.seat.now).own (view_of c.push.new.seat).own
    (turns.Push k c.credits-credits.result) tells.Close c.in-Close.ensures.turns
    (ap (λ (n : ℕ). turns.Push k n) c.credits-credits.ensures, refl) in
    pass_aside g.L.Link.told g.L.Link.given g.L.Link.left g.L.Link.written g.L.Link.faults g.L.Link.ended
    (g.G.Gate.bars c.args.gate.now) a k before Ends c.args.wire.now.stream c.args.wire.now.link (view_of c.args.seat.now).own
    (view_of c.push.new.seat).own turned

pub returns-in-Make-clause-pushes : goal.returns-in-Make-clause-pushes
returns-in-Make-clause-pushes g c = λ a.
    let k = c.args.course.now.channel in
    let before = Runs c.args.line.now in
    let turned = aside_turn a k before Ends (view_of c.args.seat.now).own (view_of c.push.new.seat).own
    (turns.Push k c.credits-credits.result) (tells.Make c.in-Make.previous) c.in-Make.ensures.turns
    (ap (λ (n : ℕ). turns.Push k n) c.credits-credits.ensures, refl) in
    pass_aside g.L.Link.told g.L.Link.given g.L.Link.left g.L.Link.written g.L.Link.faults g.L.Link.ended
    (g.G.Gate.bars c.args.gate.now) a k before Ends c.args.wire.now.stream c.args.wire.now.link (view_of c.args.seat.now).own
    (view_of c.push.new.seat).own turned

pub returns-in-Bind-clause-pushes : goal.returns-in-Bind-clause-pushes
returns-in-Bind-clause-pushes g c = λ a.
    let k = c.args.course.now.channel in
    let before = Runs c.args.line.now in
    let turned = aside_turn a k before Ends (view_of c.args.seat.now).own (view_of c.push.new.seat).own
    (turns.Push k c.credits-credits.result) (tells.Bind c.in-Bind.bound c.in-Bind.number) c.in-Bind.ensures.turns
    (ap (λ (n : ℕ). turns.Push k n) c.credits-credits.ensures, refl) in
    pass_aside g.L.Link.told g.L.Link.given g.L.Link.left g.L.Link.written g.L.Link.faults g.L.Link.ended
    (g.G.Gate.bars c.args.gate.now) a k before Ends c.args.wire.now.stream c.args.wire.now.link (view_of c.args.seat.now).own
    (view_of c.push.new.seat).own turned

pub returns-in-Nothing-clause-pushes : goal.returns-in-Nothing-clause-pushes
returns-in-Nothing-clause-pushes g c = λ a.
    let k = c.args.course.now.channel in
    let before = Runs c.args.line.now in
    let turned = aside_turn a k before before (view_of c.args.seat.now).own (view_of c.push.new.seat).own
    (turns.Push k c.credits-credits.result) tells.Nothing c.in-Nothing.ensures.turns
    (ap (λ (n : ℕ). turns.Push k n) c.credits-credits.ensures, refl) in
    pass_on g.L.Link.told g.L.Link.given g.L.Link.left g.L.Link.written g.L.Link.faults g.L.Link.ended
    (g.G.Gate.bars c.args.gate.now) a k (on before c.args.wire.now.stream c.args.wire.now.link (view_of c.args.seat.now).own)
    (on before c.args.wire.now.stream c.args.wire.now.link (view_of c.push.new.seat).own)
    (on (side_unless c.hear_or_rest.result (Runs c.hear_or_rest.new.line)) c.hear_or_rest.new.wire.stream c.hear_or_rest.new.wire.link
    (view_of c.hear_or_rest.new.seat).own)
    (pass_aside g.L.Link.told g.L.Link.given g.L.Link.left g.L.Link.written g.L.Link.faults g.L.Link.ended
    (g.G.Gate.bars c.args.gate.now) a k before before c.args.wire.now.stream c.args.wire.now.link (view_of c.args.seat.now).own
    (view_of c.push.new.seat).own turned)
    (c.hear_or_rest.ensures.hears a)

pub returns-in-Send-clause-pushes : goal.returns-in-Send-clause-pushes
returns-in-Send-clause-pushes g c = λ a.
    let k = c.args.course.now.channel in
    let before = Runs c.args.line.now in
    let turned = aside_turn a k before (Sends c.args.line.now c.in-Send.request) (view_of c.args.seat.now).own
    (view_of c.push.new.seat).own (turns.Push k c.credits-credits.result) (tells.Send c.in-Send.request) c.in-Send.ensures.turns
    (ap (λ (n : ℕ). turns.Push k n) c.credits-credits.ensures, refl) in
    let sends = Sends c.args.line.now c.in-Send.request in
    pass_on g.L.Link.told g.L.Link.given g.L.Link.left g.L.Link.written g.L.Link.faults g.L.Link.ended
    (g.G.Gate.bars c.args.gate.now) a k (on before c.args.wire.now.stream c.args.wire.now.link (view_of c.args.seat.now).own)
    (on sends c.args.wire.now.stream c.args.wire.now.link (view_of c.push.new.seat).own)
    (on (side_unless c.send_and_hear.result (Runs c.send_and_hear.new.line)) c.send_and_hear.new.wire.stream c.send_and_hear.new.wire.link
    (view_of c.send_and_hear.new.seat).own)
    (pass_aside g.L.Link.told g.L.Link.given g.L.Link.left g.L.Link.written g.L.Link.faults g.L.Link.ended
    (g.G.Gate.bars c.args.gate.now) a k before sends c.args.wire.now.stream c.args.wire.now.link (view_of c.args.seat.now).own
    (view_of c.push.new.seat).own turned)
    (c.send_and_hear.ensures.sends a)
