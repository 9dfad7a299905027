use Rattle.std.proofs.Common.{refl, sym, subst, ◌∙◌}
use Rattle.serve_turns.specs.shared_book.Words.{view_of}
use Rattle.client_channels.proofs.channel_turns.Linking.{pass_aside}
use Rattle.client_channels.specs.channel_turns.Links.{Passes, on, talked_side}
use Rattle.client_channels.specs.channel_turns.Sides.{Accepts, Ends, Joins, Side, Talks}
use Rattle.client_channels.proofs.channel_turns.dialogs.accept_or_join.Goals as goal

pub returns-then-bound-clause-accepts : goal.returns-then-bound-clause-accepts
returns-then-bound-clause-accepts g c =
    rw (sym c.is_some-bound.ensures ∙ c.if-bound.true)
    (subst (λ (s : Side). Passes g.L.Link.told g.L.Link.given g.L.Link.left g.L.Link.written g.L.Link.faults g.L.Link.ended
    (g.G.Gate.bars c.args.gate.now) c.args.aim.now c.args.channel
    (on (Joins c.args.dialog.now) c.args.wire.now.stream c.args.wire.now.link (view_of c.args.seat.now).own)
    (on s c.args.wire.now.stream c.args.wire.now.link (view_of c.join.new.seat).own)) (sym (c.join.ensures.ends (Talks c.join.new.dialog)))
    (pass_aside g.L.Link.told g.L.Link.given g.L.Link.left g.L.Link.written g.L.Link.faults g.L.Link.ended
    (g.G.Gate.bars c.args.gate.now) c.args.aim.now c.args.channel (Joins c.args.dialog.now)
    (talked_side c.join.result Ends) c.args.wire.now.stream c.args.wire.now.link
    (view_of c.args.seat.now).own (view_of c.join.new.seat).own c.join.ensures.joins))

pub returns-clause-accepts : goal.returns-clause-accepts
returns-clause-accepts g c =
    rw (sym c.is_some-bound.ensures ∙ c.if-bound.false)
    (subst (λ (s : Side). Passes g.L.Link.told g.L.Link.given g.L.Link.left g.L.Link.written g.L.Link.faults g.L.Link.ended
    (g.G.Gate.bars c.args.gate.now) c.args.aim.now c.args.channel
    (on (Accepts c.args.keys c.args.message.now c.args.dialog.now) c.args.wire.now.stream c.args.wire.now.link
    (view_of c.args.seat.now).own)
    (on s c.accept.new.wire.stream c.accept.new.wire.link (view_of c.accept.new.seat).own))
    (sym (c.talked_by.ensures (Talks c.args.dialog.now)))
    (c.accept.ensures.accepts c.args.aim.now c.args.dialog.now refl))
