use Rattle.std.proofs.Common.{refl}
use Rattle.drill_command.proofs.script_run.driving.drive.Goals as goal

pub returns-in-Setting : goal.returns-in-Setting
returns-in-Setting c = rw c.in-Setting.is (c.skip.ensures, refl)

pub returns-in-Operation : goal.returns-in-Operation
returns-in-Operation c = rw c.in-Operation.is c.drive_step.ensures

pub returns-in-Event : goal.returns-in-Event
returns-in-Event c = rw c.in-Event.is c.drive_event.ensures
