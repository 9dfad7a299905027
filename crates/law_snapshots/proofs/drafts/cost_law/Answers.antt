use Rattle.law_snapshots.proofs.drafts.Costs.{twice}
use Rattle.law_snapshots.proofs.drafts.cost_law.Goals as goal

pub returns : goal.returns
returns c = twice
