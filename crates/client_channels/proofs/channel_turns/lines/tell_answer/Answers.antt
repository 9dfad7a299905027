use Rattle.std.proofs.Common.{refl, sym, ◌∙◌}
use Rattle.serve_turns.specs.shared_book.Words.{view_of}
use Rattle.client_channels.proofs.channel_turns.Stepping.{aside_turn}
use Rattle.client_channels.specs.channel_turns.Sides.{Ends, Hears, Runs}
use Rattle.client_book.specs.declared.turn.Turn.TheVariants as turns
use Rattle.client_channels.proofs.channel_turns.lines.tell_answer.Goals as goal

pub returns-then-nothing-clause-tells : goal.returns-then-nothing-clause-tells
returns-then-nothing-clause-tells g c = λ a l.
    aside_turn a c.args.channel (Hears l c.args.answer) (Runs l) (view_of c.args.seat.now).own (view_of c.tell-told.new.seat).own
    (turns.Hear c.args.channel c.args.answer)
    c.tell-told.result c.tell-told.ensures.turns (refl, rw (sym c.is_nothing-nothing.ensures ∙ c.if-nothing.true) refl)

pub returns-clause-tells : goal.returns-clause-tells
returns-clause-tells g c = λ a l.
    aside_turn a c.args.channel (Hears l c.args.answer) Ends (view_of c.args.seat.now).own (view_of c.tell-told.new.seat).own
    (turns.Hear c.args.channel c.args.answer)
    c.tell-told.result c.tell-told.ensures.turns (refl, rw (sym c.is_nothing-nothing.ensures ∙ c.if-nothing.false) refl)
