use Rattle.law_hostile.proofs.dialogs.Counting.{channels_counted}
use Rattle.law_hostile.proofs.dialogs.channels_are_counted_law.Goals as goal

pub returns : goal.returns
returns c = record { counted = channels_counted }
