use Rattle.examples_world.proofs.repeats.PutUp.{put_up_computed}
use Rattle.examples_world.proofs.repeats.put_up_example.Goals as goal

pub returns : goal.returns
returns c = record { signed = put_up_computed.0; bare = put_up_computed.1 }
