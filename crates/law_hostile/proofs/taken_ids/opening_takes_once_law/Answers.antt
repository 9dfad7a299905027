use Rattle.law_hostile.proofs.taken_ids.Runs.{opening_takes_once}
use Rattle.law_hostile.proofs.taken_ids.opening_takes_once_law.Goals as goal

pub returns : goal.returns
returns c = record { once = opening_takes_once }
