use Rattle.std.proofs.Common.{refl, sym, ◌∙◌}
use Rattle.client_ends.proofs.response_faults.setup.judge_flags.Goals as goal

pub returns-then-fits : goal.returns-then-fits
returns-then-fits c = (sym c.flags_fit-fits.ensures ∙ c.if-fits.true, refl, refl, c.seals.ensures)

pub returns-else-fits : goal.returns-else-fits
returns-else-fits c = (sym c.flags_fit-fits.ensures ∙ c.if-fits.false, refl)
