use Rattle.law_sessions.proofs.sessions.Always.{sessions}
use Rattle.law_sessions.proofs.sessions.KindsAlways.{all_kinds}
use Rattle.law_sessions.proofs.sessions.sessions_law.Goals as goal

pub returns : goal.returns
returns c = record { fit = sessions; kinds = all_kinds }
