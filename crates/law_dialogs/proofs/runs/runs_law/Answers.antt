use Rattle.law_dialogs.proofs.runs.Runs.{runs_go}
use Rattle.law_dialogs.proofs.runs.runs_law.Goals as goal

pub returns : goal.returns
returns c = record { runs = runs_go c.nothing_is_refused_law.ensures }
