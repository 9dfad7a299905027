use Rattle.std.proofs.Common.{refl}
use Rattle.serve_turns.specs.shared_book.Words.{view_of}
use Rattle.client_channels.proofs.channel_turns.Stepping.{aside_turn}
use Rattle.client_channels.specs.channel_turns.Sides.{Ends, Breaks}
use Rattle.client_book.specs.declared.turn.Turn.TheVariants as turns
use Rattle.client_channels.proofs.channel_turns.lines.cut.Goals as goal

pub returns-clause-cuts : goal.returns-clause-cuts
returns-clause-cuts g c = λ a.
    aside_turn a c.args.channel Breaks Ends (view_of c.args.seat.now).own (view_of c.tell-told.new.seat).own
    (turns.Cut c.args.channel) c.tell-told.result c.tell-told.ensures.turns (refl, refl)
