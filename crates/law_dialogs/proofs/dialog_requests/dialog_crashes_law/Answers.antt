use Rattle.law_dialogs.proofs.dialog_requests.Crash.{dialog_crashes}
use Rattle.law_dialogs.proofs.dialog_requests.dialog_crashes_law.Goals as goal

pub returns : goal.returns
returns c = record { kept = dialog_crashes c.nothing_is_refused_law.ensures }
