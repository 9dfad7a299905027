use Rattle.law_waiting.proofs.wait_runs.Running.{waits}
use Rattle.law_waiting.proofs.wait_runs.waiting_law.Goals as goal

pub returns : goal.returns
returns c = waits
