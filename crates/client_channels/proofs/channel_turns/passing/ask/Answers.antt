use Rattle.std.proofs.Common.{refl}
use Rattle.serve_turns.specs.shared_book.Words.{view_of}
use Rattle.client_channels.proofs.channel_turns.passing.ask.Goals as goal

pub returns-clause-turns : goal.returns-clause-turns
returns-clause-turns g c = record {
  placed = (
    c.apply-told.result.1.place,
    record { seat = (view_of c.args.seat.now).number; event = c.args.turn; reply = c.apply-told.result.0 },
  );
  own_is = c.apply-told.ensures.applied.own;
  event = refl;
  reply = refl;
}
