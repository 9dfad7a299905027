use Rattle.law_hostile.proofs.taken_ids.Once.{signed_takes_once}
use Rattle.law_hostile.proofs.taken_ids.signed_takes_once_law.Goals as goal

pub returns : goal.returns
returns c = record { once = signed_takes_once }
