use Rattle.law_hostile.proofs.placed.Own.{heard_is_own}
use Rattle.law_hostile.proofs.placed.heard_is_own_law.Goals as goal

pub returns : goal.returns
returns c = record { own = heard_is_own }
