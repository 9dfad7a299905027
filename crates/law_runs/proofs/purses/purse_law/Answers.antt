use Rattle.law_runs.proofs.purses.Runs.{have_all}
use Rattle.law_runs.proofs.purses.purse_law.Goals as goal

pub returns : goal.returns
returns c = record { full = have_all c.nothing_is_refused_law.ensures c.plain_runs_law.ensures.runs }
