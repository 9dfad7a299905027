use Rattle.law_ties.proofs.events.InStep.{tied_goes}
use Rattle.law_ties.proofs.events.in_step_law.Goals as goal

pub returns : goal.returns
returns c = record { in_step = tied_goes c.nothing_is_refused_law.ensures }
