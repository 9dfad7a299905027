use Rattle.law_locks.proofs.Law.{exactly_once, locks}
use Rattle.law_locks.proofs.exactly_once_law.Goals as goal

pub returns : goal.returns
returns c = record { once = exactly_once; fit = locks }
