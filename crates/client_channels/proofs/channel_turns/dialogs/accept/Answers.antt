use Rattle.std.proofs.Common.{refl, sym, ap, ◌∙◌, ℕ}
use Rattle.serve_turns.specs.shared_book.Words.{view_of}
use Rattle.client_channels.proofs.channel_turns.Stepping.{aside_turn}
use Rattle.client_channels.proofs.channel_turns.Linking.{pass_aside, pass_on}
use Rattle.client_channels.specs.channel_turns.Links.{on, side_unless}
use Rattle.client_channels.specs.channel_turns.Sides.{Accepts, Ends, Says, Talks}
use Rattle.client_book.specs.declared.turn.Turn.TheVariants as turns
use Rattle.client_channels.proofs.channel_turns.dialogs.accept.Goals as goal

pub returns-then-stops-clause-accepts : goal.returns-then-stops-clause-accepts
returns-then-stops-clause-accepts g c = λ a d is.
    let before = Accepts c.args.keys c.args.message.now d in
    pass_aside g.L.Link.told g.L.Link.given g.L.Link.left g.L.Link.written g.L.Link.faults g.L.Link.ended
    (g.G.Gate.bars c.args.gate.now) a c.args.channel before Ends c.args.wire.now.stream c.args.wire.now.link
    (view_of c.args.seat.now).own (view_of c.tell-told.new.seat).own
    (aside_turn a c.args.channel before Ends (view_of c.args.seat.now).own (view_of c.tell-told.new.seat).own
    (turns.Accept c.args.session c.args.keys) c.tell-told.result
    c.tell-told.ensures.turns (
      ap (λ (n : ℕ). turns.Accept n c.args.keys) (sym is),
      rw
          (sym c.is_stop-stops.ensures ∙ c.if-stops.true) refl,
    ))

pub returns-clause-accepts : goal.returns-clause-accepts
returns-clause-accepts g c = λ a d is.
    let before = Accepts c.args.keys c.args.message.now d in
    let said = Says c.args.message.now (Talks d) in
    pass_on g.L.Link.told g.L.Link.given g.L.Link.left g.L.Link.written g.L.Link.faults g.L.Link.ended
    (g.G.Gate.bars c.args.gate.now) a c.args.channel
    (on before c.args.wire.now.stream c.args.wire.now.link (view_of c.args.seat.now).own)
    (on said c.args.wire.now.stream c.args.wire.now.link (view_of c.tell-told.new.seat).own)
    (on (side_unless c.speak.result (Talks d)) c.speak.new.wire.stream c.speak.new.wire.link (view_of c.speak.new.seat).own)
    (pass_aside g.L.Link.told g.L.Link.given g.L.Link.left g.L.Link.written g.L.Link.faults g.L.Link.ended
    (g.G.Gate.bars c.args.gate.now) a c.args.channel before said c.args.wire.now.stream c.args.wire.now.link
    (view_of c.args.seat.now).own (view_of c.tell-told.new.seat).own
    (aside_turn a c.args.channel before said (view_of c.args.seat.now).own (view_of c.tell-told.new.seat).own
    (turns.Accept c.args.session c.args.keys) c.tell-told.result
    c.tell-told.ensures.turns (
      ap (λ (n : ℕ). turns.Accept n c.args.keys) (sym is),
      rw (sym c.is_stop-stops.ensures ∙ c.if-stops.false)
          refl,
    )))
    (c.speak.ensures.speaks a d)
