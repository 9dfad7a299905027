use Rattle.law_hostile.proofs.acts.Frames.{acts_are_guarded}
use Rattle.law_hostile.proofs.acts.acts_are_guarded_law.Goals as goal

pub returns : goal.returns
returns c = record { guarded = acts_are_guarded }
