use Rattle.law_hostile.proofs.acts.Faulty.{faulty_acts_not}
use Rattle.law_hostile.proofs.acts.faulty_acts_not_law.Goals as goal

pub returns : goal.returns
returns c = record { never = faulty_acts_not }
