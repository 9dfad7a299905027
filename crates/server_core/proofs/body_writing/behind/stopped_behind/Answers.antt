use Rattle.std.proofs.Common.{ap, sym}
use Rattle.server_checks.specs.declared.setups.error.EventError.{EventError}
use Rattle.server_core.specs.body_writing.Bodies.{stopped_by}
use Rattle.server_core.proofs.body_writing.behind.stopped_behind.Goals as goal

pub returns-in-DiskFault : goal.returns-in-DiskFault
returns-in-DiskFault c = sym (ap (λ (x : EventError). stopped_by x c.args.stopped) c.in-DiskFault.is)

pub returns-in-Memory : goal.returns-in-Memory
returns-in-Memory c = sym (ap (λ (x : EventError). stopped_by x c.args.stopped) c.in-Memory.is)

pub returns-in-Stopped : goal.returns-in-Stopped
returns-in-Stopped c = sym (ap (λ (x : EventError). stopped_by x c.args.stopped) c.in-Stopped.is)
