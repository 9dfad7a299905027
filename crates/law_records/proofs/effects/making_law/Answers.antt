use Rattle.law_records.proofs.effects.Ends.{ends_checked, ends_lesser}
use Rattle.law_records.proofs.effects.making_law.Goals as goal

pub returns : goal.returns
returns c = record { checked = ends_checked; lesser = ends_lesser }
