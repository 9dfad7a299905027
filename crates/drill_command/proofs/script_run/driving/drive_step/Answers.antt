use Rattle.drill_command.proofs.script_run.Driven.{stepped}
use Rattle.drill_command.proofs.script_run.driving.drive_step.Goals as goal

pub returns : goal.returns
returns c = stepped c.args.world.now c.step.new.world c.args.event c.step.result c.step.ensures
