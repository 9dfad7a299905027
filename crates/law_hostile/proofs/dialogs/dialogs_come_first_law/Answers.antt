use Rattle.law_hostile.proofs.dialogs.Lined.{dialogs_come_first, awaited_was_put}
use Rattle.law_hostile.proofs.dialogs.dialogs_come_first_law.Goals as goal

pub returns : goal.returns
returns c = record { first = dialogs_come_first; awaited = awaited_was_put }
