use Rattle.std.proofs.Common.{refl}
use Rattle.client_book.specs.declared.turn.Turn.TheVariants as turns
use Rattle.serve_turns.specs.shared_book.Words.{view_of}
use Rattle.client_channels.proofs.channel_turns.Applied.{can_send}
use Rattle.client_channels.proofs.channel_turns.lines.push.Goals as goal

pub returns-clause-turns : goal.returns-clause-turns
returns-clause-turns g c = record {
  placed = (
    c.apply-told.result.1.place,
    record {
      seat = (view_of c.args.seat.now).number;
      event = turns.Push c.args.channel c.args.credits;
      reply = c.apply-told.result.0;
    },
  );
  own_is = c.apply-told.ensures.applied.own;
  event = refl;
  reply = refl;
}

pub returns-clause-sends : goal.returns-clause-sends
returns-clause-sends g c =
    can_send (view_of c.args.seat.now) (view_of c.apply-told.new.seat) c.args.channel c.args.credits c.apply-told.result.0
    c.apply-told.result.1.place c.apply-told.ensures.applied
