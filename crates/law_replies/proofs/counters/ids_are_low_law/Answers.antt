use Rattle.law_replies.proofs.counters.LowIds.{ids_are_low}
use Rattle.law_replies.proofs.counters.ids_are_low_law.Goals as goal

pub returns : goal.returns
returns c = record { low = ids_are_low }
