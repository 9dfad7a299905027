use Rattle.std.proofs.Common.{refl}
use Rattle.client_steps.proofs.submits_on_opens.Onto.{clash}
use Rattle.client_steps.proofs.submits_on_opens.joining.first_outcome.Goals as goal

pub returns-then-gone : goal.returns-then-gone
returns-then-gone c = λ e. refl

pub returns-else-gone : goal.returns-else-gone
returns-else-gone c = λ e. absurd (clash c.args.gone e c.if-gone.false)
