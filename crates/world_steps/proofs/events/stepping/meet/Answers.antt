use Rattle.world_steps.proofs.events.stepping.meet.Goals as goal

pub returns-in-Submit : goal.returns-in-Submit
returns-in-Submit c = rw c.in-Submit.is c.submit.ensures

pub returns-in-Open : goal.returns-in-Open
returns-in-Open c = rw c.in-Open.is c.open.ensures

pub returns-in-Push : goal.returns-in-Push
returns-in-Push c = rw c.in-Push.is c.push.ensures

pub returns-in-Serve : goal.returns-in-Serve
returns-in-Serve c = rw c.in-Serve.is c.serve.ensures

pub returns-in-Take : goal.returns-in-Take
returns-in-Take c = rw c.in-Take.is c.take.ensures

pub returns-in-Cut : goal.returns-in-Cut
returns-in-Cut c = rw c.in-Cut.is c.cut.ensures

pub returns-in-Drop : goal.returns-in-Drop
returns-in-Drop c = rw c.in-Drop.is c.drop_server.ensures

pub returns-in-Restart : goal.returns-in-Restart
returns-in-Restart c = rw c.in-Restart.is c.restart.ensures

pub returns-in-Crash : goal.returns-in-Crash
returns-in-Crash c = rw c.in-Crash.is c.crash.ensures

pub returns-in-Wait : goal.returns-in-Wait
returns-in-Wait c = rw c.in-Wait.is c.wait.ensures

pub returns-in-Forge : goal.returns-in-Forge
returns-in-Forge c = rw c.in-Forge.is c.tamper.ensures

pub returns-in-Flip : goal.returns-in-Flip
returns-in-Flip c = rw c.in-Flip.is c.tamper-in-Flip.ensures
