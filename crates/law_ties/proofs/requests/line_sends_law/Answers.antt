use Rattle.law_ties.proofs.requests.Sending.{line_sends}
use Rattle.law_ties.proofs.requests.line_sends_law.Goals as goal

pub returns : goal.returns
returns c = record { kept = line_sends }
