use Rattle.std.proofs.Common.{sym, ◌∙◌}
use Rattle.server_checks.proofs.Listings.{begins, goes_on}
use Rattle.server_checks.proofs.check_open.none_wanted.Goals as goal

pub returns-then-goes_on : goal.returns-then-goes_on
returns-then-goes_on c = λ last g. goes_on last (sym g ∙ c.if-goes_on.true)

pub returns : goal.returns
returns c = λ last g. begins last (sym g ∙ c.if-goes_on.false)
