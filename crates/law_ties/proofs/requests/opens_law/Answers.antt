use Rattle.law_ties.proofs.requests.Opened.{opens}
use Rattle.law_ties.proofs.requests.opens_law.Goals as goal

pub returns : goal.returns
returns c = record { kept = opens }
