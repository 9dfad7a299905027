use Rattle.law_dialogs.proofs.waiting.Due.{worlds_are_due}
use Rattle.law_dialogs.proofs.waiting.worlds_are_due_law.Goals as goal

pub returns : goal.returns
returns c = record { due = worlds_are_due }
