use Rattle.law_answers.proofs.answers.Trees.{trees_are_told}
use Rattle.law_answers.proofs.answers.trees_are_told_law.Goals as goal

pub returns : goal.returns
returns c = record { told = trees_are_told }
