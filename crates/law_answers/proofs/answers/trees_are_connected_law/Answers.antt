use Rattle.law_answers.proofs.answers.Trees.{trees_are_connected}
use Rattle.law_answers.proofs.answers.trees_are_connected_law.Goals as goal

pub returns : goal.returns
returns c = record { connected = trees_are_connected }
