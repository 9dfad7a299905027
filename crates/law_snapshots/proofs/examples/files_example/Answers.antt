use Rattle.std.proofs.Common.{refl}
use Rattle.law_snapshots.specs.examples.Small.{computed}
use Rattle.law_snapshots.proofs.examples.files_example.Goals as goal

pub returns-clause-files : goal.returns-clause-files
unfolding computed
returns-clause-files c = refl

pub returns-clause-next : goal.returns-clause-next
unfolding computed
returns-clause-next c = (refl, refl)

pub returns-clause-told : goal.returns-clause-told
unfolding computed
returns-clause-told c = (refl, refl)

pub returns-clause-stored : goal.returns-clause-stored
unfolding computed
returns-clause-stored c = (refl, refl)

pub returns-clause-gone : goal.returns-clause-gone
unfolding computed
returns-clause-gone c = (refl, refl)

pub returns-clause-pending : goal.returns-clause-pending
unfolding computed
returns-clause-pending c = refl
