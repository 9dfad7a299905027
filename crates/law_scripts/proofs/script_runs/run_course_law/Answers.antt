use Rattle.law_scripts.proofs.script_runs.Schedules.{is_course}
use Rattle.law_scripts.proofs.script_runs.run_course_law.Goals as goal

pub returns : goal.returns
returns c = record { courses = is_course }
