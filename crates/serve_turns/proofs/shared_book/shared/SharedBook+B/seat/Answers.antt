use Rattle.std.proofs.Common.{rules, ap, ◌∙◌}
use Rattle.serve_turns.proofs.shared_book.Seating.{splits}
use Rattle.serve_turns.proofs.shared_book.shared.SharedBook+B.seat.Goals as goal

pub split_seat-seat-requires : goal.split_seat-seat-requires
split_seat-seat-requires g c =
    let e = c.draw_number.ensures.drawn in (
      c.draw_number.ensures.same.0 ∙ c.requires.own,
      search rules,
      splits g.B.Book.steps _ _ c.draw_number.result _ (ap (λ m. m.0.stage) e ∙ c.args.from.now.idle) (ap (λ m. m.0.drawn) e),
    )
