use Rattle.drill_command.proofs.script_run.Driven.{linked}
use Rattle.drill_command.proofs.script_run.driving.drive_link.Goals as goal

pub returns : goal.returns
returns c = linked c.args.world.now c.link.new.world c.args.k c.link.result c.link.ensures
