use Rattle.std.proofs.Common.{ℕ, ◌==◌, ap}
use Rattle.client_book.proofs.beginning.is_shunned.Goals as goal

pub returns : goal.returns
returns c = λ m s. ap (λ (n : ℕ). n == c.args.shuns) (c.id.ensures m s)
