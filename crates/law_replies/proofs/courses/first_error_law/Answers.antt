use Rattle.law_replies.proofs.courses.Errors.{first_met}
use Rattle.law_replies.proofs.courses.first_error_law.Goals as goal

pub returns : goal.returns
returns c = record { met = first_met }
