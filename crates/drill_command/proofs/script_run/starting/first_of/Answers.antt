use Rattle.std.proofs.Common.{ap}
use Rattle.law_scripts.specs.script_setup.Scripts.{first_user}
use Rattle.drill_command.proofs.script_run.starting.first_of.Goals as goal

pub returns-in-Some : goal.returns-in-Some
returns-in-Some c = ap first_user c.in-Some.ensures.cases.0
