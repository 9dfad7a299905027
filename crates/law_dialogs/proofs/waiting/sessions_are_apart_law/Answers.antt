use Rattle.law_dialogs.proofs.waiting.Apart.{sessions_are_apart}
use Rattle.law_dialogs.proofs.waiting.sessions_are_apart_law.Goals as goal

pub returns : goal.returns
returns c = record { apart = sessions_are_apart }
