use Rattle.law_hostile.proofs.loosely.Over.{sessions_stay_over}
use Rattle.law_hostile.proofs.loosely.loose_sessions_law.Goals as goal

pub returns : goal.returns
returns c = record { over = sessions_stay_over }
