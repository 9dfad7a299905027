use Rattle.std.proofs.Common.{refl, sym, ◌∙◌}
use Rattle.serve_turns.specs.shared_book.Words.{view_of}
use Rattle.client_channels.proofs.channel_turns.Stepping.{aside_turn, asides_on}
use Rattle.client_channels.specs.channel_turns.Sides.{Ends, IsDenied, behind_refused}
use Rattle.client_book.specs.declared.turn.Turn.TheVariants as turns
use Rattle.client_channels.proofs.channel_turns.dialogs.refuse.Goals as goal

pub returns-then-stops-clause-refuses : goal.returns-then-stops-clause-refuses
returns-then-stops-clause-refuses g c =
    aside_turn c.args.aim.now c.args.channel (IsDenied c.args.why) Ends (view_of c.args.seat.now).own (view_of c.tell-told.new.seat).own
    (turns.Refused c.args.channel c.args.why) c.tell-told.result c.tell-told.ensures.turns
    (refl, rw (sym c.is_stop-stops.ensures ∙ c.if-stops.true) refl)

pub returns-clause-refuses : goal.returns-clause-refuses
returns-clause-refuses g c =
    let aim = c.args.aim.now in
    let then_ = behind_refused aim c.args.why in
    asides_on aim c.args.channel (IsDenied c.args.why) then_ Ends (view_of c.args.seat.now).own (view_of c.tell-told.new.seat).own
    (view_of c.give_up.new.seat).own
    (aside_turn aim c.args.channel (IsDenied c.args.why) then_ (view_of c.args.seat.now).own (view_of c.tell-told.new.seat).own
    (turns.Refused c.args.channel c.args.why) c.tell-told.result c.tell-told.ensures.turns
    (refl, rw (sym c.is_stop-stops.ensures ∙ c.if-stops.false) refl))
    c.give_up.ensures.gives
