use Rattle.std.proofs.Common.{refl, sym, ◌∙◌}
use Rattle.client_ends.proofs.response_faults.setup.judge_bound.Goals as goal

pub returns-then-signed : goal.returns-then-signed
returns-then-signed c = (sym c.verify-signed.ensures ∙ c.if-signed.true, refl, refl)

pub returns-else-signed : goal.returns-else-signed
returns-else-signed c = (sym c.verify-signed.ensures ∙ c.if-signed.false, refl)
