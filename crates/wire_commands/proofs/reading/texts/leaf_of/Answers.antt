use Rattle.wire_commands.proofs.reading.Leaf.{leaf_split, leaf_none}
use Rattle.wire_commands.proofs.reading.texts.leaf_of.Goals as goal

pub returns-in-Some : goal.returns-in-Some
returns-in-Some c = let k = c.in-Some.ensures.cases in leaf_split c.args.path.now _ k.0 k.1 k.4 k.2.0 k.2.1

pub returns-in-None : goal.returns-in-None
returns-in-None c = leaf_none c.args.path.now c.in-None.ensures.cases
