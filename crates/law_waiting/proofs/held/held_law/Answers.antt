use Rattle.law_waiting.proofs.held.Conflicting.{held_is}
use Rattle.law_waiting.proofs.held.Equally.{waits_exactly}
use Rattle.law_waiting.proofs.held.Finding.{waits_where}
use Rattle.law_waiting.proofs.held.held_law.Goals as goal

pub returns : goal.returns
returns c = record { held = held_is; found = waits_where; exact = waits_exactly }
