use Rattle.law_dialogs.proofs.acceptance.Bound.{binds_kept}
use Rattle.law_dialogs.proofs.acceptance.binds_law.Goals as goal

pub returns : goal.returns
returns c = record { kept = binds_kept }
