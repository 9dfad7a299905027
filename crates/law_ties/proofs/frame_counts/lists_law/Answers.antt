use Rattle.law_ties.proofs.frame_counts.Along.{always}
use Rattle.law_ties.proofs.frame_counts.lists_law.Goals as goal

pub returns : goal.returns
returns c = record { along = always }
