use Rattle.law_hostile.proofs.taken_ids.Spending.{taken_once}
use Rattle.law_hostile.proofs.taken_ids.frames_take_once_law.Goals as goal

pub returns : goal.returns
returns c = record { once = taken_once }
