use Rattle.std.proofs.Common.{refl}
use Rattle.serve_turns.specs.shared_book.Words.{view_of}
use Rattle.client_channels.proofs.channel_turns.Stepping.{aside_turn}
use Rattle.client_channels.specs.channel_turns.Sides.{Ends, Leaves}
use Rattle.client_book.specs.declared.turn.Turn.TheVariants as turns
use Rattle.client_channels.proofs.channel_turns.dialogs.left.Goals as goal

pub returns-clause-leaves : goal.returns-clause-leaves
returns-clause-leaves g c = λ a.
    aside_turn a c.args.channel Leaves Ends (view_of c.args.seat.now).own (view_of c.tell-told.new.seat).own
    (turns.Leave c.args.channel) c.tell-told.result c.tell-told.ensures.turns (refl, refl)
