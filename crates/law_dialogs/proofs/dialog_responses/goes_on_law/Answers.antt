use Rattle.law_dialogs.proofs.dialog_responses.Taken.{going_on}
use Rattle.law_dialogs.proofs.dialog_responses.goes_on_law.Goals as goal

pub returns : goal.returns
returns c = record { kept = going_on }
