use Rattle.law_replies.proofs.courses.Runs.{course_runs}
use Rattle.law_replies.proofs.courses.course_runs_law.Goals as goal

pub returns : goal.returns
returns c = record { runs = course_runs }
