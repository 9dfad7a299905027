use Rattle.std.proofs.Common.{refl}
use Rattle.serve_turns.specs.shared_book.Words.{view_of}
use Rattle.serve_turns.proofs.connection_turns.turning.hear_in_turn.Goals as goal

pub returns-clause-hears : goal.returns-clause-hears
returns-clause-hears g c = record {
  turn = (
    c.apply-answer.result.1.place,
    record {
      seat = (view_of c.args.seat.now).number;
      event = record { now = c.now-now.result; what = c.args.what };
      reply = c.apply-answer.result.0;
    },
  );
  own = c.apply-answer.ensures.applied.own;
  is = refl;
  replied = refl;
}
