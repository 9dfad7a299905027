use Rattle.std.proofs.Common.{Some, refl, ap}
use Rattle.serve_turns.proofs.event_book.book.EventBook.hear.Goals as goal

pub returns : goal.returns
returns g c = record {
  reply = c.event.result;
  is = refl;
  no_frame = refl;
  serves = λ users s L records shows. c.event.ensures.serves users s L records shows c.requires;
  halts = λ users s L records shows. c.event.ensures.halts users s L records shows;
  halted = λ count was. let stays = c.event.ensures.halted count was in (ap Some stays.0, stays.1);
  fault = λ users s L records goes count stop. c.event.ensures.fault users s L records goes.0 goes.1 count stop;
}
