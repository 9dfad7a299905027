use Rattle.law_scripts.proofs.schedules.Endings.{schedules_end}
use Rattle.law_scripts.proofs.schedules.schedule_law.Goals as goal

pub returns : goal.returns
returns c = record { ends = schedules_end c.course_runs_law.ensures.runs c.refusals_law.ensures.told }
