use Rattle.examples_world.proofs.runs.Frames.{related_are}
use Rattle.examples_world.proofs.runs.related_messages_example.Goals as goal

pub returns : goal.returns
returns c = record { goes = related_are.0; fails = related_are.1 }
