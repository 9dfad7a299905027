use Rattle.law_scripts.proofs.schedules.Scripts.{scripts_end}
use Rattle.law_scripts.proofs.schedules.script_schedule_law.Goals as goal

pub returns : goal.returns
returns c = record { ends = scripts_end c.schedule_law.ensures.ends }
