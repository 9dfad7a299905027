use Rattle.examples_world.proofs.runs.Requests.{tree_asked_is, tree_told_is, signed_tree_is}
use Rattle.examples_world.proofs.runs.worked_tree_example.Goals as goal

pub returns : goal.returns
returns c = record { asked = tree_asked_is; told = tree_told_is; signed = signed_tree_is }
