use Rattle.law_sessions.proofs.messages.Run.{connections}
use Rattle.law_sessions.proofs.messages.connections_law.Goals as goal

pub returns : goal.returns
returns c = record { fit = connections }
