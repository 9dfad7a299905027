use Rattle.law_dialogs.proofs.acceptance.Accepted.{accepts_kept}
use Rattle.law_dialogs.proofs.acceptance.accepts_law.Goals as goal

pub returns : goal.returns
returns c = record { kept = accepts_kept }
