use Rattle.law_ties.proofs.requests.Crash.{line_crashes}
use Rattle.law_ties.proofs.requests.line_crashes_law.Goals as goal

pub returns : goal.returns
returns c = record { kept = line_crashes c.nothing_is_refused_law.ensures }
