use Rattle.std.proofs.Common.{refl, sym, ◌∙◌}
use Rattle.serve_turns.specs.shared_book.Words.{view_of}
use Rattle.client_channels.proofs.channel_turns.Stepping.{aside_turn, asides_on}
use Rattle.client_channels.specs.channel_turns.Sides.{Ends, IsReady, IsStale, Runs}
use Rattle.client_book.specs.declared.turn.Turn.TheVariants as turns
use Rattle.client_channels.proofs.channel_turns.dialogs.ready.Goals as goal

pub returns-then-nothing-clause-readies : goal.returns-then-nothing-clause-readies
returns-then-nothing-clause-readies g c = λ a.
    let before = IsReady c.args.line c.args.session c.args.tree in
    aside_turn a c.args.channel before (Runs c.args.line) (view_of c.args.seat.now).own (view_of c.tell-told.new.seat).own
    (turns.Ready c.args.channel c.args.session c.args.tree) c.tell-told.result c.tell-told.ensures.turns
    (refl, rw (sym c.is_nothing-nothing.ensures ∙ c.if-nothing.true) refl)

pub returns-then-stops-clause-readies : goal.returns-then-stops-clause-readies
returns-then-stops-clause-readies g c = λ a.
    let before = IsReady c.args.line c.args.session c.args.tree in
    aside_turn a c.args.channel before Ends (view_of c.args.seat.now).own (view_of c.tell-told.new.seat).own
    (turns.Ready c.args.channel c.args.session c.args.tree) c.tell-told.result c.tell-told.ensures.turns
    (refl, rw (sym c.is_nothing-nothing.ensures ∙ c.if-nothing.false, sym c.is_stop-stops.ensures ∙ c.if-stops.true) refl)

pub returns-clause-readies : goal.returns-clause-readies
returns-clause-readies g c = λ a.
    let before = IsReady c.args.line c.args.session c.args.tree in
    asides_on a c.args.channel before IsStale Ends (view_of c.args.seat.now).own (view_of c.tell-told.new.seat).own
    (view_of c.stale.new.seat).own
    (aside_turn a c.args.channel before IsStale (view_of c.args.seat.now).own (view_of c.tell-told.new.seat).own
    (turns.Ready c.args.channel c.args.session c.args.tree) c.tell-told.result c.tell-told.ensures.turns
    (refl, rw (sym c.is_nothing-nothing.ensures ∙ c.if-nothing.false, sym c.is_stop-stops.ensures ∙ c.if-stops.false) refl))
    (c.stale.ensures.stale a)
