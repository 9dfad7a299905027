use Rattle.std.proofs.Common.{refl}
use Rattle.serve_turns.specs.declared.event_book.turn.What.TheVariants.{Message}
use Rattle.serve_turns.specs.shared_book.Words.{view_of}
use Rattle.serve_turns.proofs.connection_turns.Steps.{message_step, one_frame, some_none}
use Rattle.serve_turns.proofs.connection_turns.turning.ask_in_turn.Goals as goal

pub unreachable-requires : goal.unreachable-requires
unreachable-requires g c =
    let step = message_step g.S.Serve.shows g.S.Serve.stopped g.S.Serve.faults (view_of c.args.seat.now)
    (view_of c.apply-answer.new.seat) c.args.now
    c.args.asks c.apply-answer.result.0 c.apply-answer.result.1.place c.apply-answer.ensures.applied in
    some_none c.apply-answer.result.0.frame c.args.asks.frame step.2.frame c.in-None.is

pub returns-clause-asks : goal.returns-clause-asks
returns-clause-asks g c =
    let step = message_step g.S.Serve.shows g.S.Serve.stopped g.S.Serve.faults (view_of c.args.seat.now)
    (view_of c.apply-answer.new.seat) c.args.now
    c.args.asks c.apply-answer.result.0 c.apply-answer.result.1.place c.apply-answer.ensures.applied in
    record {
      turn = (
        c.apply-answer.result.1.place,
        record {
          seat = (view_of c.args.seat.now).number;
          event = record { now = c.args.now; what = Message c.args.asks };
          reply = c.apply-answer.result.0;
        },
      );
      own = c.apply-answer.ensures.applied.own;
      event = refl;
      reply = refl;
      frame = one_frame c.apply-answer.result.0.frame c.in-Some.frame c.args.asks.frame c.in-Some.is step.2.frame;
      short = step.2.answers.short;
    }
