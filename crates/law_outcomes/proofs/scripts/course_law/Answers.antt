use Rattle.law_outcomes.proofs.scripts.Due.{course_runs, finishes_refused}
use Rattle.law_outcomes.proofs.scripts.Scripts.{gives_nothing_up}
use Rattle.law_outcomes.proofs.scripts.course_law.Goals as goal

pub returns : goal.returns
returns c = record { runs = course_runs; finishes = finishes_refused; gives_up = gives_nothing_up }
