use Rattle.std.proofs.Common.{rules, ap}
use Rattle.serve_turns.proofs.shared_book.Applying.{opened_by}
use Rattle.serve_turns.proofs.shared_book.Seating.{peeks, peeked_history}
use Rattle.serve_turns.proofs.shared_book.shared.SharedBook+B.peek.Goals as goal

pub load-requires : goal.load-requires
load-requires g c = (c.requires.own, search rules, peeks g.B.Book.steps _ _ _ _ c.args.seat.now.idle)

pub returns-clause-history : goal.returns-clause-history
returns-clause-history g c =
    let o = opened_by c.args.seat.now.seat.me.0.opening c.args.seat.now.opened in
    peeked_history g.B.Book.steps o.0 o.0 c.load.result c.args.seat.now.seat.me.0 c.load.new.seat.me.0 o.1 (ap (λ m. m.0) c.load.ensures.2.0)
    (c.load.ensures.2.2 o.0 o.1)
