use Rattle.law_hostile.proofs.empties.Runs.{lists_are_empty}
use Rattle.law_hostile.proofs.empties.lists_are_empty_law.Goals as goal

pub returns : goal.returns
returns c = record { empties = lists_are_empty }
