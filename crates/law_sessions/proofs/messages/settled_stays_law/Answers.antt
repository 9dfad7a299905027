use Rattle.law_sessions.proofs.messages.Stays.{settled_stays}
use Rattle.law_sessions.proofs.messages.settled_stays_law.Goals as goal

pub returns : goal.returns
returns c = record { stays = settled_stays }
