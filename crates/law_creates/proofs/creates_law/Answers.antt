use Rattle.law_creates.proofs.Law.{at_most_of, acknowledged_of, never_of, creates}
use Rattle.law_creates.proofs.creates_law.Goals as goal

pub returns : goal.returns
returns c = record { at_most = at_most_of; acknowledged = acknowledged_of; never = never_of; fit = creates }
