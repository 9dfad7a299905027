use Rattle.std.proofs.Common.{rules, ap, ◌∙◌}
use Rattle.serve_turns.proofs.shared_book.Turning.{looks}
use Rattle.serve_turns.proofs.shared_book.shared.SharedBook+B.wait.Goals as goal

pub load-requires : goal.load-requires
load-requires g c = (
  c.loop.invariant.0 ∙ c.requires.own,
  search rules,
  looks g.B.Book.steps _ _ _ c.args.ticket _ (ap (λ m. m.0.stage) c.loop.invariant.2 ∙ c.requires.waiting),
)
