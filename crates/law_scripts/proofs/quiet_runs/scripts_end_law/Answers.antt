use Rattle.law_scripts.proofs.quiet_runs.Scripts.{quiet_scripts_end}
use Rattle.law_scripts.proofs.quiet_runs.scripts_end_law.Goals as goal

pub returns : goal.returns
returns c = record { end = quiet_scripts_end c.lines_end_law.ensures.end c.script_settings_law.ensures.fit }
