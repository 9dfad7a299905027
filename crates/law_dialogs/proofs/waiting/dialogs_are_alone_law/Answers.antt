use Rattle.law_dialogs.proofs.waiting.Alone.{dialogs_are_alone}
use Rattle.law_dialogs.proofs.waiting.dialogs_are_alone_law.Goals as goal

pub returns : goal.returns
returns c = record { alone = dialogs_are_alone }
