use Rattle.law_replies.proofs.courses.Counts.{are_short}
use Rattle.law_replies.proofs.courses.courses_are_short_law.Goals as goal

pub returns : goal.returns
returns c = record { short = are_short }
