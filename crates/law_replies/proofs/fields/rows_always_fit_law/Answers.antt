use Rattle.law_replies.proofs.fields.Runs.{rows_always_fit}
use Rattle.law_replies.proofs.fields.rows_always_fit_law.Goals as goal

pub returns : goal.returns
returns c = record { fit = rows_always_fit }
