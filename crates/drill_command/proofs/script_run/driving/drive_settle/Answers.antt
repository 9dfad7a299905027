use Rattle.drill_command.proofs.script_run.Driven.{settled}
use Rattle.drill_command.proofs.script_run.driving.drive_settle.Goals as goal

pub returns : goal.returns
returns c = settled c.args.world.now c.settle.new.world c.settle.result c.settle.ensures
