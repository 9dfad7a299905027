use Rattle.std.proofs.Common.{refl, ap, ℕ, ◌∙◌}
use Rattle.serve_command.specs.Renewing.{ahead_after}
use Rattle.serve_command.proofs.lasting_book.book.LastingBook.fill.Goals as goal

pub returns : goal.returns
returns g c = record {
  result = c.take_ahead-taken.result;
  takes = c.take_ahead-taken.ensures.takes;
  config = c.take_ahead-taken.ensures.config;
  used = c.take_ahead-taken.ensures.used;
  calm = c.take_ahead-taken.ensures.calm;
  mark = refl;
  ahead = c.ahead_after-self.ensures
      ∙ ap (λ (n : ℕ). ahead_after c.take_ahead-taken.result c.args.self.now.ahead n) c.requires;
}
