use Rattle.law_dialogs.proofs.dialog_requests.Serve.{dialog_serves}
use Rattle.law_dialogs.proofs.dialog_requests.dialog_serves_law.Goals as goal

pub returns : goal.returns
returns c = record { kept = dialog_serves c.nothing_is_refused_law.ensures }
