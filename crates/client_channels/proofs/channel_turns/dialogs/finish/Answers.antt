use Rattle.std.proofs.Common.{refl}
use Rattle.serve_turns.specs.shared_book.Words.{view_of}
use Rattle.client_channels.proofs.channel_turns.Stepping.{aside_turn}
use Rattle.client_channels.specs.channel_turns.Sides.{Ends, Finishes}
use Rattle.client_book.specs.declared.turn.Turn.TheVariants as turns
use Rattle.client_channels.proofs.channel_turns.dialogs.finish.Goals as goal

pub returns-clause-finishes : goal.returns-clause-finishes
returns-clause-finishes g c = λ a k.
    aside_turn a k (Finishes c.args.why) Ends (view_of c.args.seat.now).own (view_of c.tell-told.new.seat).own
    (turns.Finish c.args.why) c.tell-told.result c.tell-told.ensures.turns (refl, refl)
