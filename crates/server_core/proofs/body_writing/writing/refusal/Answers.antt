use Rattle.std.proofs.Common.{ap, sym}
use Rattle.server_core.specs.body_writing.Bodies.{event_error_of}
use Rattle.server_core.proofs.body_writing.writing.refusal.Goals as goal

pub returns-in-DiskFault : goal.returns-in-DiskFault
returns-in-DiskFault c = sym (ap event_error_of c.in-DiskFault.is)

pub returns-in-Stopped : goal.returns-in-Stopped
returns-in-Stopped c = sym (ap event_error_of c.in-Stopped.is)

pub returns-in-Memory : goal.returns-in-Memory
returns-in-Memory c = sym (ap event_error_of c.in-Memory.is)

pub returns-in-NotAJournal : goal.returns-in-NotAJournal
returns-in-NotAJournal c = sym (ap event_error_of c.in-NotAJournal.is)

pub returns-in-Full : goal.returns-in-Full
returns-in-Full c = sym (ap event_error_of c.in-Full.is)
