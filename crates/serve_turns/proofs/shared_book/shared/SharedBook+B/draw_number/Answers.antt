use Rattle.std.proofs.Common.{rules, ap, ◌∙◌, refl}
use Rattle.serve_turns.proofs.shared_book.Seating.{draws_number}
use Rattle.serve_turns.proofs.shared_book.shared.SharedBook+B.draw_number.Goals as goal

pub compare_exchange-found-requires : goal.compare_exchange-found-requires
compare_exchange-found-requires g c =
    let e = c.loop.invariant.2 in (
      c.loop.invariant.0 ∙ c.requires.own,
      search rules,
      draws_number g.B.Book.steps _ _ _ _ _ _ (ap (λ m. m.0.stage) e ∙ c.requires.idle) (ap (λ m. m.0.numbered) e ∙ c.requires.numbered)
          (ap (λ m. m.0.drawn) e ∙ c.requires.undrawn) refl,
    )
