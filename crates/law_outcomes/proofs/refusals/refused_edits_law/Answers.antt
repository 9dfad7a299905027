use Rattle.law_outcomes.proofs.refusals.Law.{refusals, refused_never_acts}
use Rattle.law_outcomes.proofs.refusals.refused_edits_law.Goals as goal

pub returns : goal.returns
returns c = record { never = refused_never_acts; fit = refusals }
