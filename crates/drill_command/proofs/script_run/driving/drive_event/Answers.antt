use Rattle.std.proofs.Common.{ℕ, subst}
use Rattle.spec_exchange.specs.Network as network
use Rattle.spec_world.specs.Courses.{Does}
use Rattle.drill_command.specs.script_run.Drives.{Drives}
use Rattle.drill_command.proofs.script_run.driving.drive_event.Goals as goal

pub returns-in-Open : goal.returns-in-Open
returns-in-Open c = rw c.in-Open.is c.drive_step.ensures

pub returns-in-Push : goal.returns-in-Push
returns-in-Push c = rw c.in-Push.is c.drive_step-in-Push.ensures

pub returns-in-Serve : goal.returns-in-Serve
returns-in-Serve c = rw c.in-Serve.is c.drive_step-in-Serve.ensures

pub returns-in-Take : goal.returns-in-Take
returns-in-Take c = rw c.in-Take.is c.drive_step-in-Take.ensures

pub returns-in-Cut : goal.returns-in-Cut
returns-in-Cut c = rw c.in-Cut.is c.drive_step-in-Cut.ensures

pub returns-in-Drop : goal.returns-in-Drop
returns-in-Drop c = rw c.in-Drop.is c.drive_step-in-Drop.ensures

pub returns-in-Restart : goal.returns-in-Restart
returns-in-Restart c = rw c.in-Restart.is c.drive_step-in-Restart.ensures

pub returns-in-Crash : goal.returns-in-Crash
returns-in-Crash c = rw c.in-Crash.is c.drive_step-in-Crash.ensures

pub returns-in-Forge : goal.returns-in-Forge
returns-in-Forge c = rw c.in-Forge.is c.drive_step-in-Forge.ensures

pub returns-in-Flip : goal.returns-in-Flip
returns-in-Flip c = rw c.in-Flip.is c.drive_step-in-Flip.ensures

pub returns-in-Wait : goal.returns-in-Wait
returns-in-Wait c =
    rw c.in-Wait.is (subst (λ (n : ℕ). Drives c.args.world.now (Does (network.Wait n)) c.drive_step-in-Wait.new.world
    c.drive_step-in-Wait.result)
    c.from.ensures c.drive_step-in-Wait.ensures)

pub returns-in-Link : goal.returns-in-Link
returns-in-Link c = rw c.in-Link.is c.drive_link.ensures

pub returns-in-Settle : goal.returns-in-Settle
returns-in-Settle c = rw c.in-Settle.is c.drive_settle.ensures
