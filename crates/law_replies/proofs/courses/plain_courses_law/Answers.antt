use Rattle.law_replies.proofs.courses.Plain.{are_plain}
use Rattle.law_replies.proofs.courses.plain_courses_law.Goals as goal

pub returns : goal.returns
returns c = record { plain = are_plain }
