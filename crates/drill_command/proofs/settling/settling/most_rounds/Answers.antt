use Rattle.std.proofs.Common.{arith}
use Rattle.drill_command.proofs.settling.settling.most_rounds.Goals as goal

pub returns : goal.returns
returns c = λ d s. (let e = c.taken_by-taken.ensures d s in omega (arith, e))
