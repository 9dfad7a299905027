use Rattle.law_sessions.proofs.sessions.DialogFacts.{dialogs}
use Rattle.law_sessions.proofs.sessions.dialogs_law.Goals as goal

pub returns : goal.returns
returns c = record { fit = dialogs }
