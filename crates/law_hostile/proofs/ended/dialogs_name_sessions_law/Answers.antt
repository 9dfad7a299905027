use Rattle.law_hostile.proofs.ended.Seconds.{dialogs_name_sessions}
use Rattle.law_hostile.proofs.ended.dialogs_name_sessions_law.Goals as goal

pub returns : goal.returns
returns c = record { named = dialogs_name_sessions }
