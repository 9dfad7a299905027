use Rattle.law_ties.proofs.events.Tree.{tree_takes}
use Rattle.law_ties.proofs.events.tree_takes_law.Goals as goal

pub returns : goal.returns
returns c = record { kept = tree_takes }
