use Rattle.server_core.proofs.durable_state.OfFile.{other_error, memory_error}
use Rattle.server_core.proofs.durable_state.files.unless_memory.Goals as goal

pub returns-in-Ok : goal.returns-in-Ok
returns-in-Ok c = λ e. let k = c.in-Ok.is in cc

pub returns-in-Status : goal.returns-in-Status
returns-in-Status c = other_error c.args.answer c.in-Err.error c.in-Status.field-0 c.in-Err.is c.in-Status.is

pub returns-in-Memory : goal.returns-in-Memory
returns-in-Memory c = memory_error c.args.answer c.in-Err.error c.in-Err.is c.in-Memory.is
