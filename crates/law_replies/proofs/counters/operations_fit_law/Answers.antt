use Rattle.law_replies.proofs.counters.Fits.{operations_fit}
use Rattle.law_replies.proofs.counters.operations_fit_law.Goals as goal

pub returns : goal.returns
returns c = record { fit = operations_fit }
