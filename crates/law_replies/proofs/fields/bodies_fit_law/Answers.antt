use Rattle.law_replies.proofs.fields.Told.{bodies_fit}
use Rattle.law_replies.proofs.fields.bodies_fit_law.Goals as goal

pub returns : goal.returns
returns c = record { fit = bodies_fit }
