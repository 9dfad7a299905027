use Rattle.law_ties.proofs.requests.Line.{line_serves}
use Rattle.law_ties.proofs.requests.line_serves_law.Goals as goal

pub returns : goal.returns
returns c = record { kept = line_serves c.nothing_is_refused_law.ensures }
