use Rattle.law_hostile.proofs.loosely.Runs.{loosely_once}
use Rattle.law_hostile.proofs.loosely.loose_once_law.Goals as goal

pub returns : goal.returns
returns c = record { once = loosely_once }
