use Rattle.std.proofs.Common.{rules, ap, ◌∙◌, refl}
use Rattle.serve_turns.proofs.shared_book.Turning.{draws}
use Rattle.serve_turns.proofs.shared_book.shared.SharedBook+B.draw.Goals as goal

pub compare_exchange-found-requires : goal.compare_exchange-found-requires
compare_exchange-found-requires g c = (
  c.loop.invariant.0 ∙ c.requires.own,
  search rules,
  draws g.B.Book.steps _ _ _ _ _ _ (ap (λ m. m.0.stage) c.loop.invariant.2 ∙ c.requires.idle) refl,
)
