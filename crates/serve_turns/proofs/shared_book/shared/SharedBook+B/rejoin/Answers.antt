use Rattle.std.proofs.Common.{rules}
use Rattle.serve_turns.proofs.shared_book.Seating.{joins}
use Rattle.serve_turns.proofs.shared_book.shared.SharedBook+B.rejoin.Goals as goal

pub join_seat-requires : goal.join_seat-requires
join_seat-requires g c = (
  c.requires.own.0,
  c.requires.own.1,
  c.args.ended.empty,
  search rules,
  joins g.B.Book.steps _ _ _ _ _ c.args.seat.now.idle c.args.ended.idle c.args.ended.numbered c.args.ended.undrawn,
)
