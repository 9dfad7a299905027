use Rattle.law_records.proofs.leaving_opens.Ended.{ended, forgotten}
use Rattle.law_records.proofs.leaving_opens.laws.ended_law.Goals as goal

pub returns : goal.returns
returns c = record { ended = ended; forgotten = forgotten }
