use Rattle.std.proofs.Common.{refl}
use Rattle.law_snapshots.specs.examples.Small.{computed}
use Rattle.law_snapshots.proofs.examples.opens_example.Goals as goal

pub returns-clause-opens : goal.returns-clause-opens
unfolding computed
returns-clause-opens c = refl

pub returns-clause-slot : goal.returns-clause-slot
unfolding computed
returns-clause-slot c = refl

pub returns-clause-ranges : goal.returns-clause-ranges
unfolding computed
returns-clause-ranges c = refl

pub returns-clause-guid : goal.returns-clause-guid
unfolding computed
returns-clause-guid c = refl

pub returns-clause-marks : goal.returns-clause-marks
unfolding computed
returns-clause-marks c = (refl, refl)

pub returns-clause-numbers : goal.returns-clause-numbers
unfolding computed
returns-clause-numbers c = (refl, refl)
