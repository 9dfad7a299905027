use Rattle.law_hostile.proofs.premises.Short.{short_runs}
use Rattle.law_hostile.proofs.premises.short_runs_law.Goals as goal

pub returns : goal.returns
returns c = record { bounded = short_runs }
