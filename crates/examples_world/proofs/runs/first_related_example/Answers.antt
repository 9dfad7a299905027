use Rattle.examples_world.proofs.runs.Frames.{first_are, setups_are}
use Rattle.examples_world.proofs.runs.Opened.{misplaced_is}
use Rattle.examples_world.proofs.runs.first_related_example.Goals as goal

pub returns : goal.returns
returns c = record {
  plain = first_are.0;
  related = first_are.1.0;
  refused = first_are.1.1;
  create = misplaced_is;
  setup = setups_are.0;
  placed_setup = setups_are.1;
}
