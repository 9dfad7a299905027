use Rattle.std.proofs.Common.{refl}
use Rattle.serve_turns.proofs.event_book.book.EventBook.take.Goals as goal

pub returns : goal.returns
returns g c = record { frame = refl; answers = c.answer-reply.ensures }
