use Rattle.std.proofs.Common.{ℕ, ◌≡◌, ◌/◌, ◌%◌, ◌^◌, ◌==◌, ap, arith}
use Rattle.access_lists.specs.Decide.{has_right}
use Rattle.access_lists.proofs.deciding.asked_of.Goals as goal

whole : (n : ℕ) → n ≡ n / 2 ^ 0
whole n = omega arith

pub returns : goal.returns
unfolding has_right
returns c = ap (λ (n : ℕ). record {
  read = n % 2 == 1;
  write = (c.args.rights / 2 ^ 1) % 2 == 1;
  delete = (c.args.rights / 2 ^ 2) % 2 == 1;
}) (whole c.args.rights)
