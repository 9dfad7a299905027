use Rattle.law_scripts.proofs.settling.Scripts.{scripts_settle}
use Rattle.law_scripts.proofs.settling.scripts_settle_law.Goals as goal

pub returns : goal.returns
returns c = record { settle = scripts_settle c.lines_settle_law.ensures.settle c.script_settings_law.ensures.fit }
